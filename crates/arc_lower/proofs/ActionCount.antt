-- A program becomes exactly as many actions as its forms say.
use Rattle.std.proofs.Common.{◌≡◌, ℕ, zero, suc, ◌+◌, ◌-◌, ◌*◌, ◌/◌, ◌<◌, ◌≤◌, Bool, true, false, ◌||◌, nat_lt, if◌then◌else◌, List, [], ◌∷◌, ◌++◌, length, drop, pos, Option, Some, None, refl, sym, ap, subst, ◌∙◌, arith, rules, length-append}
use Rattle.std.proofs.lemmas.Bool.{true≢false}
use Rattle.std.proofs.lemmas.Bool.Decides.{nat_tests}
use Rattle.std.specs.List.{list_any, sum_by}
use Rattle.std.proofs.lemmas.List.Folds.{list_any-append}
use Rattle.std.proofs.lemmas.List.Sums.{sum_by-append, sum_by-cons}
use Rattle.arc_code.specs.declared.code.TheConstants.{MOST_TEXT}
use Rattle.arc_ast.specs.declared.tree.Kind.{Kind}
use Rattle.arc_spec.specs.declared.class.Method.{Method}
use Rattle.arc_spec.specs.declared.class.Gives.{Gives}
use Rattle.arc_spec.specs.declared.class.Gives.TheVariants as gives
use Rattle.arc_spec.specs.Classes.{Class, lesser, same_gives}
use Rattle.arc_spec.specs.Meaning.{function_at, function_places, nothing_giving}
use Rattle.arc_spec.specs.Resolved.{Piece, Bytes, Value, Number, Receiver, Reference, Nil, ClassValue, Arguments, no_arguments, Command, Sequence, If, While, Commands, no_commands, and_command, Function, Program}
use Rattle.arc_code.specs.declared.instr.Op.TheVariants as ops
use Rattle.arc_code.specs.declared.instr.Instr.TheVariants.{Plain}
use Rattle.arc_code.specs.Effects.{as_object}
use Rattle.arc_lower.specs.PlainActions.{PlainAction}
use Rattle.arc_lower.specs.Size.{Size, plain, taking, ◌and◌, by_variable, format_size, print_size, owned_by, object_parameters, distance, entering_size, has_new, new_size, conversion_size, value_size, reference_size, receiver_size, arguments_size, does_nothing, scope_size, command_size, commands_size, function_size, method_size, dealloc_size, class_size, program_size}
use Rattle.arc_lower.specs.Lowered as plain_actions
use Rattle.arc_lower.specs.Lowered.{Entry, Block, Idle, One, Store, Read, Assign, Clear, Format, Calls, SendsMessage, Making, IfNew, Answer, Then, Fork, Loop, Quit, Advance, FullExpression, Spot, narrow_block, new_block, value_block, reference_block, receiver_block, arguments_block, command_block, commands_block, body_block, Between, no_turn}
use Rattle.arc_lower.proofs.ExpressionWeight.{value_weight, reference_weight, receiver_weight, arguments_weight}

-- ---- actions

-- actions are so many, and one of them has a temporary take an object, or none has
record Sized (s : Size) (xs : List PlainAction) : Type 0 where
  many : length xs ≡ s.actions
  takes : list_any plain_actions.action_takes xs ≡ s.takes

exact : {xs : List PlainAction} → Sized (record { actions = length xs; takes = list_any plain_actions.action_takes xs }) xs
exact = record { many = refl; takes = refl }

appended : {s t : Size} {xs ys : List PlainAction} → Sized s xs → Sized t ys → Sized (s and t) (xs ++ ys)
appended {xs} {ys} a b = record { many = omega (arith, length-append xs ys, a.many, b.many); takes = search (arith, list_any-append, a.takes, b.takes) }

-- one action more, which takes no object
behind : {s : Size} {x : PlainAction} {xs : List PlainAction} → plain_actions.action_takes x ≡ false → Sized s xs → Sized (record { actions = suc s.actions; takes = s.takes }) (x ∷ xs)
behind {xs} quiet a = record { many = ap suc a.many; takes = ap (λ b. b || list_any plain_actions.action_takes xs) quiet ∙ a.takes }

resized : {s t : Size} {xs : List PlainAction} → s.actions ≡ t.actions → s.takes ≡ t.takes → Sized s xs → Sized t xs
resized h k a = record { many = a.many ∙ h; takes = a.takes ∙ k }

if_sized : {n m : ℕ} {t : Bool} {xs ys : List PlainAction} (b : Bool) → Sized (record { actions = n; takes = t }) xs → Sized (record { actions = m; takes = t }) ys
    → Sized (record { actions = if b then n else m; takes = t }) (if b then xs else ys)
if_sized b first second = search arith

-- the same action so many times
repeated : (o : PlainAction) (g : ℕ → List PlainAction) → plain_actions.action_takes o ≡ false → g 0 ≡ [] → ((n : ℕ) → g (suc n) ≡ o ∷ g n) → (n : ℕ) → Sized (plain n) (g n)
repeated o g quiet first next zero = subst (Sized (plain 0)) (sym first) exact
repeated o g quiet first next (suc n) = subst (Sized (plain (suc n))) (sym (next n)) (behind quiet (repeated o g quiet first next n))

pops : (n : ℕ) → Sized (plain n) (plain_actions.pop_actions n)
pops = repeated (Plain ops.Pop) plain_actions.pop_actions refl refl (λ n. refl)

forgets : (n : ℕ) → Sized (plain n) (plain_actions.forget_actions n)
forgets = repeated (Plain ops.Forget) plain_actions.forget_actions refl refl (λ n. refl)

kept : (n : ℕ) → Sized (plain n) (plain_actions.keep_actions n)
kept zero = exact
kept (suc n) = behind refl (pops n)

stored : (first n : ℕ) → length (plain_actions.take_actions first n) ≡ 2 * n
stored first zero = refl
stored first (suc n) = omega (arith, stored first n)

owned : (b : Bool) (n : ℕ) → length (if b then plain_actions.own_actions n else []) ≡ 4 * lesser (if b then 1 else 0) n
owned b n = search (arith, nat_tests)

cleared : (names first n : ℕ) → Sized (plain (lesser n (names - first))) (plain_actions.all_empty_actions names first n)
cleared names first zero = grind (arith, nat_tests)
cleared names first (suc n) = grind (arith, nat_tests, list_any-append, cleared names first n)

all_cleared : (b : Bool) (n : ℕ) → lesser n ((if b then suc n else n) - 0) ≡ n
all_cleared b n = grind (arith, nat_tests)

dropped : {s : Size} {xs : List PlainAction} → Sized s xs → Sized (plain (if s.takes then 1 else 0)) (plain_actions.drop_actions xs)
dropped {s} {xs} a = search arith

entered : (entry : Entry) (n m : ℕ) → Sized (plain (plain_actions.enter_size entry)) (plain_actions.enter_actions entry n m)
entered entry n m = search arith

-- ---- formats

parts : (n : ℕ) (bytes : List ℕ) → Sized (plain (suc n)) (plain_actions.part_actions n bytes)
parts zero bytes = exact
parts (suc n) bytes = behind refl (parts n (drop MOST_TEXT bytes))

formats : (pieces : List Piece) (n : ℕ) → Sized (plain (format_size pieces n)) (plain_actions.format_actions pieces n)
formats [] n = exact
formats (Bytes bytes ∷ pieces) n = appended (parts ((length bytes - 1) / MOST_TEXT) bytes) (formats pieces n)
formats (_ ∷ pieces) zero = formats pieces zero
formats (_ ∷ pieces) (suc n) = resized (omega arith) refl (behind refl (behind refl (formats pieces n)))

prints : (pieces : List Piece) (n m : ℕ) → Sized (plain (print_size pieces n m)) (plain_actions.forget_actions m ++ plain_actions.print_actions pieces n)
prints pieces n m = resized (omega arith) refl (appended (forgets m) (behind refl (appended (formats pieces n) (behind refl (kept n)))))

-- ---- where functions are entered

-- so many actions, one of which takes an object where one is wanted
abbrev giving_size : (wanted : Gives) → ℕ → Size
giving_size wanted k = record { actions = k; takes = nat_lt 0 (as_object wanted) || false }

module _ (P : Program) (wanted : Gives) (g n m : ℕ) where
  passed : Sized (plain (distance n (function_at P wanted g).slots + distance m (object_parameters (function_at P wanted g)))) (plain_actions.passing_actions P wanted g n m)
  passed =
      let slots = plain_actions.slots_of P wanted g in
      let parameters = plain_actions.parameters_of P wanted g in
      appended (appended (pops (n - slots)) (repeated (Plain (ops.Num (pos 0))) plain_actions.zero_actions refl refl (λ k. refl) (slots - n)))
      (appended (forgets (m - parameters)) (repeated (Plain ops.Nil) plain_actions.nil_actions refl refl (λ k. refl) (parameters - m)))

  called : Sized (giving_size wanted (entering_size P wanted g n m)) (plain_actions.call_actions P wanted g n m)
  called = appended passed exact

  stubbed : (entries : List ℕ) → length (plain_actions.stub_actions P entries wanted n m g) ≡ entering_size P wanted g n m
  stubbed entries = omega (arith, length-append {A = PlainAction}, passed.many)

-- how many actions a call is that passes nothing
pub call_length : (P : Program) (wanted : Gives) (g : ℕ) → length (plain_actions.call_actions P wanted g 0 0) ≡ plain_actions.slots_of P wanted g + plain_actions.parameters_of P wanted g + 1
call_length P wanted g = omega (arith, (called P wanted g 0 0).many)

-- ---- blocks

module _ (P : Program) (f : Function) where
  abbrev flat : Spot → Block → List PlainAction
  flat = plain_actions.flat P f.slots (function_places f)

  -- how many actions a block becomes, wherever it stands, and whether one of them takes an object
  abbrev size : Block → Size
  size Idle = plain 0
  size (One o) = record { actions = 1; takes = plain_actions.action_takes (Plain o) || false }
  size (Store depth i) = plain (by_variable i f.slots 2 0)
  size (Read i) = taking (by_variable i (function_places f) 1 2)
  size (Assign i) = plain (by_variable i (function_places f) 1 0)
  size (Clear first count) = plain (scope_size f first count)
  size (Format pieces n m) = plain (print_size pieces n m)
  size (Calls wanted g n m) = giving_size wanted (entering_size P wanted g n m)
  size (SendsMessage wanted message n m) = giving_size wanted 1
  size Making = taking 3
  size (IfNew class a b) = if has_new P class then size a else size b
  size Answer = plain (lesser 1 (function_places f))
  size (Then a b) = size a and size b
  size (Fork a b) = size a and size b and plain 2
  size (Loop entry step test body) = plain (plain_actions.enter_size entry) and size step and size test and size body and plain 2
  size Quit = plain 2
  size (FullExpression a b) = size a and size b and plain (if (size a).takes then 1 else 0)
  size _ = plain 1

  flat_sized : (x : Block) (e : Spot) → Sized (size x) (flat e x)
  flat_sized (Clear first count) e = cleared (function_places f) first count
  flat_sized (Format pieces n m) e = prints pieces n m
  flat_sized (Calls wanted g n m) e = called P wanted g n m
  flat_sized (IfNew class a b) e = grind (arith, flat_sized a, flat_sized b)
  flat_sized (Then a b) e = appended (flat_sized a e) (flat_sized b _)
  flat_sized (Fork a b) e = resized (omega arith) (search rules) (behind refl (appended (flat_sized a _) (behind refl (flat_sized b _))))
  flat_sized (Loop entry step test body) e =
      resized (omega arith) (search rules) (appended (entered entry _ _) (appended (flat_sized step _) (appended (flat_sized test _) (behind refl (appended (flat_sized body _) exact)))))
  flat_sized (FullExpression a b) e = appended (flat_sized a _) (appended (flat_sized b _) (dropped (flat_sized a _)))
  flat_sized _ e = search (arith, nat_tests, exact, if_sized)

  -- ---- expressions

  converted : (known kind : Kind) → size (narrow_block known kind) ≡ plain (conversion_size known kind)
  converted known kind = search arith

  news : (from : Option ℕ) (a : Value) → size (new_block from a) ≡ taking (new_size P from a)
  news (Some class) a = search arith
  news None (Number (pos class)) = search arith
  news None _ = refl

  -- The expressions that weigh less than this are of their sizes. What follows of those that weigh as much is one search for all forms of an expression.
  record Below (n : ℕ) : Type 0 where
    values : (depth : ℕ) (a : Value) → value_weight a < n → size (value_block depth a) ≡ value_size P f a
    references : (depth : ℕ) (a : Reference) → reference_weight a < n → size (reference_block depth a) ≡ reference_size P f a
    receivers : (depth : ℕ) (a : Receiver) → receiver_weight a < n → size (receiver_block depth a) ≡ receiver_size P f a
    arguments : (depth : ℕ) (all : Arguments) → arguments_weight all < n → size (arguments_block depth all) ≡ arguments_size P f all

  module _ (n : ℕ) (h : Below n) where
    value_is : (depth : ℕ) (a : Value) → value_weight a ≤ n → size (value_block depth a) ≡ value_size P f a
    value_is depth (Number k) w = refl
    value_is depth _ w = search (arith, converted, h.values, h.references, h.receivers, h.arguments)

    reference_is : (depth : ℕ) (a : Reference) → reference_weight a ≤ n → size (reference_block depth a) ≡ reference_size P f a
    reference_is depth Nil w = refl
    reference_is depth _ w = search (arith, news, h.values, h.references, h.receivers, h.arguments)

    receiver_is : (depth : ℕ) (a : Receiver) → receiver_weight a ≤ n → size (receiver_block depth a) ≡ receiver_size P f a
    receiver_is depth (ClassValue a) w = h.values depth a w
    receiver_is depth _ w = search (arith, h.references)

    arguments_are : (depth : ℕ) (all : Arguments) → arguments_weight all ≤ n → size (arguments_block depth all) ≡ arguments_size P f all
    arguments_are depth no_arguments w = refl
    arguments_are depth _ w = search (arith, h.values, h.references, h.arguments)

  below : (n : ℕ) → Below n
  below zero = search arith
  below (suc n) = search (arith, value_is n (below n), reference_is n (below n), receiver_is n (below n), arguments_are n (below n))

  value_counted : (depth : ℕ) (a : Value) → size (value_block depth a) ≡ value_size P f a
  value_counted depth a = (below (suc (value_weight a))).values depth a (omega arith)

  reference_counted : (depth : ℕ) (a : Reference) → size (reference_block depth a) ≡ reference_size P f a
  reference_counted depth a = (below (suc (reference_weight a))).references depth a (omega arith)

  -- ---- statements

  empty : (step : Command) (b c : ℕ) → does_nothing step ≡ true → command_size P f b c step ≡ 0
  empty (Sequence first zero no_commands) b c e = grind (arith, nat_tests)
  empty _ b c e = absurd (true≢false (sym e))

  mutual
    command_is : (exit : ℕ) (breaks continues : Block) (b c : ℕ) → (size breaks).actions ≡ b → (size continues).actions ≡ c → (x : Command)
        → (size (command_block exit breaks continues x)).actions ≡ command_size P f b c x
    command_is exit breaks continues b c h k (Sequence first count all) =
        omega (arith, commands_are exit (Then (Clear first count) breaks) (Then (Clear first count) continues) (scope_size f first count + b) (scope_size f first count + c) (omega (arith, h)) (omega (arith, k)) all)
    command_is exit breaks continues b c h k (If test x y) =
        grind (arith, value_counted, command_is exit breaks continues b c h k x, command_is exit breaks continues b c h k y)
    command_is exit breaks continues b c h k (While moment test step body) =
        grind (arith, value_counted, empty step b c, command_is exit breaks continues b c h k step, command_is exit Quit Advance 2 1 refl refl body)
    command_is exit breaks continues b c h k _ = search (arith, value_counted, reference_counted)

    commands_are : (exit : ℕ) (breaks continues : Block) (b c : ℕ) → (size breaks).actions ≡ b → (size continues).actions ≡ c → (all : Commands)
        → (size (commands_block exit breaks continues all)).actions ≡ commands_size P f b c all
    commands_are exit breaks continues b c h k no_commands = refl
    commands_are exit breaks continues b c h k (and_command x others) =
        omega (arith, command_is exit breaks continues b c h k x, commands_are exit breaks continues b c h k others)

  function_is : (place : ℕ) → length (plain_actions.function_actions P place f) ≡ function_size P f
  function_is place =
      let start = Between (plain_actions.entry_of place f + length (plain_actions.opening_actions f)) no_turn in
      omega (
        arith,
        length-append {A = PlainAction},
        (cleared (function_places f) 0 f.names).many,
        all_cleared (same_gives f.gives gives.Object) f.names,
        (kept f.slots).many,
        (repeated (Plain ops.Declare) plain_actions.declare_actions refl refl (λ n. refl) (function_places f)).many,
        stored (owned_by f) (object_parameters f),
        owned f.owns (function_places f),
        (flat_sized (body_block place f.body) start).many,
        commands_are place (plain_actions.nothing_given place) (plain_actions.nothing_given place) 2 2 refl refl f.body,
      )

-- ---- the program

module _ (P : Program) where
  functions_are : (place : ℕ) (fs : List Function) → length (plain_actions.functions_actions P place fs) ≡ sum_by (function_size P) fs
  functions_are place [] = refl
  functions_are place (f ∷ others) =
      let next = place + length (plain_actions.function_actions P place f) in
      omega (arith, length-append {A = PlainAction}, sum_by-cons (function_size P) f others, function_is P f place, functions_are next others)

  module _ (entries : List ℕ) where
    methods_are : (ms : List Method) → length (plain_actions.methods_actions P entries ms) ≡ sum_by (method_size P) ms
    methods_are [] = refl
    methods_are (m ∷ others) = search (arith, stubbed, length-append, sum_by-cons, methods_are others)

    dealloc_is : (d : Option ℕ) → length (plain_actions.dealloc_actions P entries d) ≡ dealloc_size P d
    dealloc_is None = refl
    dealloc_is (Some g) = stubbed P gives.Number g 0 0 entries

    classes_are : (cs : List Class) → length (plain_actions.classes_actions P entries cs) ≡ sum_by (class_size P) cs
    classes_are [] = refl
    classes_are (c ∷ others) = search (arith, length-append, sum_by-cons, dealloc_is, methods_are, classes_are others)

  pub actions_counted : length (plain_actions.lowered P) ≡ program_size P
  unfolding program_size
  actions_counted =
      omega (
        arith,
        length-append {A = PlainAction},
        (called P gives.Number P.main 0 0).many,
        functions_are (length (plain_actions.start_actions P)) (plain_actions.all_functions P),
        sum_by-append (function_size P) P.functions (nothing_giving gives.Number ∷ nothing_giving gives.Object ∷ []),
        classes_are (plain_actions.entries_of P) P.classes,
      )
