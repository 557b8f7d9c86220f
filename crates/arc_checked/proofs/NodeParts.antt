-- The children of a node of a checked program that stand in a Vec, as a list, and nodes of which the parts are known.
use Rattle.std.proofs.Common.{◌≡◌, ℕ, List, Vec, Box, Global, refl, sym, ap, ◌∙◌}
use mathlib.Core.Former.{Count}
use Rattle.arc_checked.specs.declared.program.Piece.{Piece}
use Rattle.arc_checked.specs.declared.program.Value.{Value, Print, Print', Call, Call', Send, Send', Row_of-Argument, end_of-Argument, more_of-Argument, items-the_row-Argument, items_hidden-the_row-Argument-0}
use Rattle.arc_checked.specs.declared.program.Reference.{Reference, ObjectCall, ObjectCall', ObjectSend, ObjectSend'}
use Rattle.arc_checked.specs.declared.program.Receiver.{Receiver}
use Rattle.arc_checked.specs.declared.program.Argument.{Argument}
use Rattle.arc_checked.specs.declared.program.Command.{Command, Sequence, Sequence', Row_of-Command, end_of-Command, more_of-Command, items-the_row-Command, items_hidden-the_row-Command-0}
use Rattle.arc_checked.specs.Checked.{pieces, value, reference, receiver, arguments, and_argument, row_arguments, command, commands, row_commands}
use Rattle.arc_spec.specs.Resolved as resolved

abbrev arguments_of : Value → (n : Count) × Row_of-Argument n
arguments_of (Print' all _ row) = (_, row)
arguments_of (Call' f _ row) = (_, row)
arguments_of (Send' q a selector _ row) = (_, row)
arguments_of _ = (_, end_of-Argument)

row_arguments_is : (n : _) (row : Row_of-Argument n) → row_arguments row ≡ arguments (items-the_row-Argument n row)
row_arguments_is n end_of-Argument = refl
row_arguments_is n (more_of-Argument a row) = ap (and_argument a) (row_arguments_is _ row)

pub print_value : (all : Vec Piece Global) (given : Vec Argument Global) → value (Print all given) ≡ resolved.Print (pieces all.items) (arguments given.items)
print_value all given =
    let row = arguments_of (Print all given) in
    ap (resolved.Print (pieces all.items)) (row_arguments_is row.0 row.1 ∙ ap arguments (items_hidden-the_row-Argument-0 given))

pub invoked_value : (f : ℕ) (given : Vec Argument Global) → value (Call f given) ≡ resolved.Call f (arguments given.items)
invoked_value f given =
    let row = arguments_of (Call f given) in
    ap (resolved.Call f) (row_arguments_is row.0 row.1 ∙ ap arguments (items_hidden-the_row-Argument-0 given))

pub sent_value : (a : Box Receiver Global) (selector : ℕ) (given : Vec Argument Global) → value (Send a selector given) ≡ resolved.Send (receiver a.value) selector (arguments given.items)
sent_value a selector given =
    let row = arguments_of (Send a selector given) in
    ap (resolved.Send (receiver a.value) selector) (row_arguments_is row.0 row.1 ∙ ap arguments (items_hidden-the_row-Argument-0 given))

abbrev object_arguments_of : Reference → (n : Count) × Row_of-Argument n
object_arguments_of (ObjectCall' f _ row) = (_, row)
object_arguments_of (ObjectSend' q a selector _ row) = (_, row)
object_arguments_of _ = (_, end_of-Argument)

pub object_invoked_reference : (f : ℕ) (given : Vec Argument Global) → reference (ObjectCall f given) ≡ resolved.ObjectCall f (arguments given.items)
object_invoked_reference f given =
    let row = object_arguments_of (ObjectCall f given) in
    ap (resolved.ObjectCall f) (row_arguments_is row.0 row.1 ∙ ap arguments (items_hidden-the_row-Argument-0 given))

pub object_sent_reference : (a : Box Receiver Global) (selector : ℕ) (given : Vec Argument Global) → reference (ObjectSend a selector given) ≡ resolved.ObjectSend (receiver a.value) selector (arguments given.items)
object_sent_reference a selector given =
    let row = object_arguments_of (ObjectSend a selector given) in
    ap (resolved.ObjectSend (receiver a.value) selector) (row_arguments_is row.0 row.1 ∙ ap arguments (items_hidden-the_row-Argument-0 given))

abbrev commands_of : Command → (n : Count) × Row_of-Command n
commands_of (Sequence' first count _ row) = (_, row)
commands_of _ = (_, end_of-Command)

row_commands_is : (n : _) (row : Row_of-Command n) → row_commands row ≡ commands (items-the_row-Command n row)
row_commands_is n end_of-Command = refl
row_commands_is n (more_of-Command a row) = ap (resolved.and_command (command a)) (row_commands_is _ row)

pub sequence_command : (first count : ℕ) (all : Vec Command Global) → command (Sequence first count all) ≡ resolved.Sequence first count (commands all.items)
sequence_command first count all =
    let row = commands_of (Sequence first count all) in
    ap (resolved.Sequence first count) (row_commands_is row.0 row.1 ∙ ap commands (items_hidden-the_row-Command-0 all))

-- what a node is of its parts
pub is_print : (v : Value) (all : Vec Piece Global) (given : Vec Argument Global) (shapes : List Piece) (these : List Argument)
    → v ≡ Print all given → shapes ≡ all.items → these ≡ given.items → value v ≡ resolved.Print (pieces shapes) (arguments these)
is_print v all given shapes these is same_shapes same =
    ap value is ∙ print_value all given
    ∙ ap (λ l. resolved.Print (pieces all.items) (arguments l)) (sym same)
    ∙ ap (λ l. resolved.Print (pieces l) (arguments these)) (sym same_shapes)

pub is_invoked : (v : Value) (f : ℕ) (given : Vec Argument Global) (these : List Argument) → v ≡ Call f given → these ≡ given.items → value v ≡ resolved.Call f (arguments these)
is_invoked v f given these is same = ap value is ∙ invoked_value f given ∙ ap (λ l. resolved.Call f (arguments l)) (sym same)

pub is_sent : (v : Value) (a : Box Receiver Global) (selector : ℕ) (given : Vec Argument Global) (got : Receiver) (these : List Argument)
    → v ≡ Send a selector given → got ≡ a.value → these ≡ given.items → value v ≡ resolved.Send (receiver got) selector (arguments these)
is_sent v a selector given got these is same_receiver same =
    ap value is ∙ sent_value a selector given
    ∙ ap (λ l. resolved.Send (receiver a.value) selector (arguments l)) (sym same)
    ∙ ap (λ x. resolved.Send (receiver x) selector (arguments these)) (sym same_receiver)

pub is_object_invoked : (v : Reference) (f : ℕ) (given : Vec Argument Global) (these : List Argument) → v ≡ ObjectCall f given → these ≡ given.items
    → reference v ≡ resolved.ObjectCall f (arguments these)
is_object_invoked v f given these is same = ap reference is ∙ object_invoked_reference f given ∙ ap (λ l. resolved.ObjectCall f (arguments l)) (sym same)

pub is_object_sent : (v : Reference) (a : Box Receiver Global) (selector : ℕ) (given : Vec Argument Global) (got : Receiver) (these : List Argument)
    → v ≡ ObjectSend a selector given → got ≡ a.value → these ≡ given.items → reference v ≡ resolved.ObjectSend (receiver got) selector (arguments these)
is_object_sent v a selector given got these is same_receiver same =
    ap reference is ∙ object_sent_reference a selector given
    ∙ ap (λ l. resolved.ObjectSend (receiver a.value) selector (arguments l)) (sym same)
    ∙ ap (λ x. resolved.ObjectSend (receiver x) selector (arguments these)) (sym same_receiver)

pub is_sequence : (c : Command) (first count : ℕ) (all : Vec Command Global) (these : List Command)
    → c ≡ Sequence first count all → these ≡ all.items → command c ≡ resolved.Sequence first count (commands these)
is_sequence c first count all these is same = ap command is ∙ sequence_command first count all ∙ ap (λ l. resolved.Sequence first count (commands l)) (sym same)
