-- What the interpreter reports of a call, of an object's end and of dropped places follows from what it reports of their parts.
use Rattle.std.proofs.Common.{arith, ◌≡◌, ℕ, suc, ◌+◌, ◌-◌, ◌<◌, ◌≤◌, ℤ, true, false, List, [], ◌∷◌, length, take, reverse, get_or, Option, Some, None, option_map, Result, Err, slice_get, refl, sym, ap, subst, ◌∙◌}
use Rattle.std.proofs.lemmas.List.{reverse-reverse, length-reverse}
use Rattle.std.proofs.lemmas.Option.{slice_get-map}
use Rattle.arc_checked.specs.declared.program.CheckedFunction.{CheckedFunction}
use Rattle.arc_checked.specs.Checked.{functions, program_of}
use Rattle.arc_spec.specs.declared.class.Class as declared
use Rattle.arc_spec.specs.Classes.{Class, same_gives, field_order, class_of, classes_of, superclasses, ancestry_within}
use Rattle.arc_spec.proofs.DeallocChain.{dealloc_and_above, deallocs_from}
use Rattle.arc_spec.specs.declared.class.Gives.{Gives}
use Rattle.arc_spec.specs.declared.class.Gives.TheVariants as gives
use Rattle.arc_spec.specs.Resolved.{Function, Program}
use Rattle.arc_spec.specs.declared.location.Location.TheVariants.{Local}
use Rattle.arc_spec.specs.World.{Activation, World, Outcome, Done, then_do, Finished, finished, Given, Answer, entered, left, name_at, named_at, stores, with_temporaries}
use Rattle.arc_spec.specs.Objects.{Object, Emptying}
use Rattle.arc_spec.specs.Meaning.{Callees, Flow, given, gives_object, answer, function_places, nothing_giving, called, all_executed, variables_dropped, released, temporaries_dropped, all_dropped, function_at, dealloc_run, deallocs_run, fields_dropped, emptied, turned, class_in}
use Rattle.arc_plain.specs.declared.context.Context.{Context}
use Rattle.arc_plain.specs.declared.given.Answered.{Answered}
use Rattle.arc_plain.specs.declared.halt.Halt.{Halt}
use Rattle.arc_plain.specs.Views.{answer_of, Reports, left_at, function_of}
use Rattle.arc_plain.proofs.FramesKept.{Waits, Same, Steady, after_done, commands_wait, variables_wait, released_same}
use Rattle.arc_plain.proofs.LoopsAndFailures.{finds_through, giving_same, giving_other, function_found, function_missing}

-- ---- calls

-- the places below those of a function that is left
same_below : (old begun now : List ℕ) (count : ℕ) (w1 w3 : World) → w1.waiting ≡ reverse begun → w3.waiting ≡ reverse now → w3.waiting ≡ w1.waiting → take count begun ≡ old → take count now ≡ old
same_below old begun now count w1 w3 first last same below =
    let there : now ≡ begun = sym (reverse-reverse now) ∙ ap reverse (sym last ∙ (same ∙ first)) ∙ reverse-reverse begun in
    ap (take count) there ∙ below

module _ (D : Callees) (steady : Steady D) (bound : ℕ) (f : Function) (self : ℕ) (passed : Given) (w0 w1 : World) (begins : w1 ≡ entered f.slots (function_places f) f.parameters f.owns self passed w0) where
  -- what follows the body
  abbrev after_call : Flow → World → Outcome Answer
  after_call flow v = then_do (variables_dropped D 0 f.names v) (λ _ v1. Done (answer f flow v1) (left w0 v1))

  meant_call : called D bound f self passed w0 ≡ then_do (all_executed D bound f.body w1) after_call
  meant_call = ap (λ w. then_do (all_executed D bound f.body w) after_call) (sym begins)

  -- a call whose body and whose variables were done
  pub call_reported : (w2 w3 w4 : World) (flow : Flow) (n : ℤ) (r count : ℕ) (old begun now : List ℕ)
      → all_executed D bound f.body w1 ≡ Done flow w2 → variables_dropped D 0 f.names w2 ≡ Done finished w3
      → w0.waiting ≡ reverse old → w1.waiting ≡ reverse begun → w3.waiting ≡ reverse now → take count begun ≡ old
      → w4 ≡ left_at w0.frame (take count now) w3 → n ≡ given flow → r ≡ name_at w3.frame.strong f.names → called D bound f self passed w0 ≡ Done (record { number = n; object = r }) w4
  call_reported w2 w3 w4 flow n r count old begun now body dropped waits first last below leaves gives names =
      let between : w2.waiting ≡ w1.waiting = after_done (Waits w1) (all_executed D bound f.body w1) flow w2 (commands_wait D steady bound f.body w1) body in
      let later : w3.waiting ≡ w2.waiting = after_done (Waits w2) (variables_dropped D 0 f.names w2) finished w3 (variables_wait D steady 0 f.names w2) dropped in
      let back : reverse (take count now) ≡ w0.waiting = ap reverse (same_below old begun now count w1 w3 first last (later ∙ between) below) ∙ sym waits in
      let there : w4 ≡ left w0 w3 = leaves ∙ ap (λ (l : List ℕ). record w3 { frame = w0.frame; waiting = l }) back in
      meant_call ∙ ap (λ o. then_do o after_call) body
      ∙ ap (λ o. then_do o (λ _ v1. Done (answer f flow v1) (left w0 v1))) dropped
      ∙ ap (λ w. Done (answer f flow w3) w) (sym there)
      ∙ ap (λ m. Done (record { number = m; object = name_at w3.frame.strong f.names }) w4) (sym gives)
      ∙ ap (λ m. Done (record { number = n; object = m }) w4) (sym names)

  -- one whose body fails
  pub body_failed : {A : Type 0} (view : A → Flow) (e : Halt) (r : Result Answered Halt) (after : World) → r ≡ Err e → Reports view (Err e) (all_executed D bound f.body w1) after
      → Reports answer_of r (called D bound f self passed w0) after
  body_failed view e r after failed h =
      subst (λ x. Reports answer_of x (called D bound f self passed w0) after) (sym failed)
      (finds_through e view answer_of after after_call (all_executed D bound f.body w1) (called D bound f self passed w0) meant_call h)

  -- one whose variables fail to be dropped
  pub drop_failed : {A : Type 0} (view : A → Finished) (flow : Flow) (w2 : World) (e : Halt) (r : Result Answered Halt) (after : World) → all_executed D bound f.body w1 ≡ Done flow w2 → r ≡ Err e
      → Reports view (Err e) (variables_dropped D 0 f.names w2) after → Reports answer_of r (called D bound f self passed w0) after
  drop_failed view flow w2 e r after body failed h =
      subst (λ x. Reports answer_of x (called D bound f self passed w0) after) (sym failed)
      (finds_through e view answer_of after (λ _ v1. Done (answer f flow v1) (left w0 v1)) (variables_dropped D 0 f.names w2) (called D bound f self passed w0)
      (meant_call ∙ ap (λ o. then_do o after_call) body) h)

-- the function of a number, where it was found, where it gives something else, and where there is none
module _ (context : Context) (all : List CheckedFunction) (wanted : Gives) (f : ℕ) (same : all ≡ context.program.now.functions.items) where
  same_functions : function_at (program_of context.program.now) wanted f
      ≡ function_at (record { functions = functions all; main = context.program.now.main; globals = context.program.now.globals.items; strong_globals = context.program.now.strong_globals; classes = classes_of context.program.now.classes.items }) wanted f
  same_functions =
      let program = context.program.now in
      ap (λ l. function_at (record { functions = functions l; main = program.main; globals = program.globals.items; strong_globals = program.strong_globals; classes = classes_of program.classes.items }) wanted f) (sym same)

  pub function_there : (g : CheckedFunction) → f < length all → g ≡ get_or all f g → same_gives g.gives wanted ≡ true → function_at (program_of context.program.now) wanted f ≡ function_of g
  function_there g below is gives =
      let program = context.program.now in
      same_functions ∙ function_found all (classes_of program.classes.items) program.globals.items program.strong_globals program.main wanted f g below is ∙ giving_same wanted (function_of g) gives

  pub function_unwanted : (g : CheckedFunction) → f < length all → g ≡ get_or all f g → same_gives g.gives wanted ≡ false → function_at (program_of context.program.now) wanted f ≡ nothing_giving wanted
  function_unwanted g below is other =
      let program = context.program.now in
      same_functions ∙ function_found all (classes_of program.classes.items) program.globals.items program.strong_globals program.main wanted f g below is ∙ giving_other wanted (function_of g) other

  pub function_absent : length all ≤ f → function_at (program_of context.program.now) wanted f ≡ nothing_giving wanted
  function_absent past =
      let program = context.program.now in
      same_functions ∙ function_missing all (classes_of program.classes.items) program.globals.items program.strong_globals program.main wanted f past

-- a function that there isn't does nothing
pub nothing_called : (D : Callees) (bound self : ℕ) (wanted : Gives) (passed : Given) (w : World) → called D bound (nothing_giving wanted) self passed w ≡ Done (gives_object 0) w
nothing_called D bound self gives.Number passed w = refl
nothing_called D bound self gives.Object passed w = refl

pub nothing_reported : (D : Callees) (bound self : ℕ) (wanted : Gives) (passed : Given) (w : World) (f : Function) (a : Answer) → f ≡ nothing_giving wanted → a ≡ gives_object 0 → called D bound f self passed w ≡ Done a w
nothing_reported D bound self wanted passed w f a is same =
    ap (λ g. called D bound g self passed w) is ∙ nothing_called D bound self wanted passed w ∙ ap (λ x. Done x w) (sym same)

-- ---- places that are dropped

-- one temporary more
pub temporary_step : (D : Callees) → Steady D → (whole : Outcome Finished) (r : ℕ) (w between after : World)
    → whole ≡ all_dropped D w → w.frame.temporaries ≡ r ∷ between.frame.temporaries → between ≡ with_temporaries w between.frame.temporaries
    → released D r between ≡ Done finished after → whole ≡ all_dropped D after
temporary_step D steady whole r w between after old last rest done =
    let others = between.frame.temporaries in
    let same : Same between after = after_done (Same between) (released D r between) finished after (released_same D steady r between) done in
    old ∙ ap (λ l. temporaries_dropped D l w) last
    ∙ ap (λ v. then_do (released D r v) (λ _ w1. temporaries_dropped D others w1)) (sym rest)
    ∙ ap (λ o. then_do o (λ _ w1. temporaries_dropped D others w1)) done
    ∙ ap (λ l. temporaries_dropped D l after) (sym (ap (λ (x : Activation). x.temporaries) same.frame))

-- the temporaries are fewer after it
pub temporaries_fewer : (D : Callees) → Steady D → (r : ℕ) (w between after : World) (before now : List ℕ) → w.frame.temporaries ≡ r ∷ between.frame.temporaries → released D r between ≡ Done finished after
    → w.frame.temporaries ≡ reverse before → after.frame.temporaries ≡ reverse now → length now < length before
temporaries_fewer D steady r w between after before now last done first later =
    let same : Same between after = after_done (Same between) (released D r between) finished after (released_same D steady r between) done in
    let kept : reverse now ≡ between.frame.temporaries = sym later ∙ ap (λ (x : Activation). x.temporaries) same.frame in
    let one : length (reverse before) ≡ suc (length (reverse now)) = ap length (sym first ∙ last) ∙ ap (λ l. suc (length l)) (sym kept) in
    omega (arith, one, length-reverse before, length-reverse now)

-- one variable more
pub variable_step : (D : Callees) (whole : Outcome Finished) (first n offset r : ℕ) (w between after : World) → n ≡ suc offset
    → whole ≡ variables_dropped D first n w → r ≡ named_at (Local (first + offset)) w → between ≡ stores (Local (first + offset)) 0 w
    → released D r between ≡ Done finished after → whole ≡ variables_dropped D first offset after
variable_step D whole first n offset r w between after one old named stored done =
    old ∙ ap (λ m. variables_dropped D first m w) one
    ∙ ap (λ q. then_do (released D q (stores (Local (first + offset)) 0 w)) (λ _ w1. variables_dropped D first offset w1)) (sym named)
    ∙ ap (λ v. then_do (released D r v) (λ _ w1. variables_dropped D first offset w1)) (sym stored)
    ∙ ap (λ o. then_do o (λ _ w1. variables_dropped D first offset w1)) done

-- a variable whose object fails to end
pub variable_failed : {A : Type 0} (D : Callees) (whole : Outcome Finished) (first n offset r : ℕ) (w between after : World) (view other : A → Finished) (e : Halt) (result : Result A Halt) → n ≡ suc offset
    → whole ≡ variables_dropped D first n w → r ≡ named_at (Local (first + offset)) w → between ≡ stores (Local (first + offset)) 0 w
    → result ≡ Err e → Reports view (Err e) (released D r between) after → Reports other result whole after
variable_failed D whole first n offset r w between after view other e result one old named stored failed h =
    let go = λ (u : Finished) (w1 : World). variables_dropped D first offset w1 in
    let meant : whole ≡ then_do (released D r between) go =
    old ∙ ap (λ m. variables_dropped D first m w) one
    ∙ ap (λ q. then_do (released D q (stores (Local (first + offset)) 0 w)) go) (sym named)
    ∙ ap (λ v. then_do (released D r v) go) (sym stored) in
    subst (λ x. Reports other x whole after) (sym failed) (finds_through e view other after go (released D r between) whole meant h)

-- with none left
pub no_temporary : (D : Callees) (whole : Outcome Finished) (w after : World) → whole ≡ all_dropped D w → w.frame.temporaries ≡ [] → after ≡ with_temporaries w after.frame.temporaries → after.frame.temporaries ≡ w.frame.temporaries → whole ≡ Done finished after
no_temporary D whole w after old none rest same =
    old ∙ ap (λ l. temporaries_dropped D l w) none ∙ ap (λ v. Done finished v) (sym (rest ∙ ap (λ l. with_temporaries w l) same))

-- ---- messages and ends of objects

module _ (P : Program) (D : Callees) (bound : ℕ) (all : List declared.Class) (o : ℕ) (classes : P.classes ≡ classes_of all) where
  found_here : (number : ℕ) (c : Option declared.Class) → slice_get all number ≡ c → slice_get P.classes number ≡ option_map class_of c
  found_here number c there = ap (λ l. slice_get l number) classes ∙ slice_get-map class_of all number ∙ ap (option_map class_of) there

  pub dealloc_here : (left i number : ℕ) (c : declared.Class) (w : World) → left ≡ suc i → slice_get all number ≡ Some c
      → deallocs_run P D bound (ancestry_within left (superclasses P.classes) (Some number)) o w
      ≡ then_do (dealloc_run P D bound c.dealloc o w) (λ _ w1. deallocs_run P D bound (ancestry_within i (superclasses P.classes) c.superclass) o w1)
  dealloc_here left i number c w one there =
      ap (λ n. deallocs_run P D bound (ancestry_within n (superclasses P.classes) (Some number)) o w) one ∙ deallocs_from P D bound i number o w
      ∙ ap (λ x. dealloc_and_above P D bound x o (λ above w1. deallocs_run P D bound (ancestry_within i (superclasses P.classes) above) o w1) w) (found_here number (Some c) there)

-- one class more, whose dealloc and what is above it are known
layer_run : (P : Program) (D : Callees) (bound : ℕ) (whole : Outcome Finished) (count i o : ℕ) (class dealloc above : Option ℕ) (w : World) → i < count
    → whole ≡ deallocs_run P D bound (ancestry_within (count - i) (superclasses P.classes) class) o w
    → ((n : ℕ) → deallocs_run P D bound (ancestry_within (suc n) (superclasses P.classes) class) o w ≡ then_do (dealloc_run P D bound dealloc o w) (λ _ w1. deallocs_run P D bound (ancestry_within n (superclasses P.classes) above) o w1))
    → whole ≡ then_do (dealloc_run P D bound dealloc o w) (λ _ w1. deallocs_run P D bound (ancestry_within (count - (i + 1)) (superclasses P.classes) above) o w1)
layer_run P D bound whole count i o class dealloc above w below old layer =
    let one : count - i ≡ suc (count - (i + 1)) = omega (arith, below) in
    old ∙ ap (λ n. deallocs_run P D bound (ancestry_within n (superclasses P.classes) class) o w) one ∙ layer (count - (i + 1))

pub layer_done : (P : Program) (D : Callees) (bound : ℕ) (whole : Outcome Finished) (count i o : ℕ) (class dealloc above : Option ℕ) (w after : World) → i < count
    → whole ≡ deallocs_run P D bound (ancestry_within (count - i) (superclasses P.classes) class) o w
    → ((n : ℕ) → deallocs_run P D bound (ancestry_within (suc n) (superclasses P.classes) class) o w ≡ then_do (dealloc_run P D bound dealloc o w) (λ _ w1. deallocs_run P D bound (ancestry_within n (superclasses P.classes) above) o w1))
    → dealloc_run P D bound dealloc o w ≡ Done finished after → whole ≡ deallocs_run P D bound (ancestry_within (count - (i + 1)) (superclasses P.classes) above) o after
layer_done P D bound whole count i o class dealloc above w after below old layer done =
    layer_run P D bound whole count i o class dealloc above w below old layer
    ∙ ap (λ x. then_do x (λ _ w1. deallocs_run P D bound (ancestry_within (count - (i + 1)) (superclasses P.classes) above) o w1)) done

pub layer_failed : {A : Type 0} (P : Program) (D : Callees) (bound : ℕ) (whole : Outcome Finished) (count i o : ℕ) (class dealloc above : Option ℕ) (w after : World) (view other : A → Finished) (e : Halt) (result : Result A Halt) → i < count
    → whole ≡ deallocs_run P D bound (ancestry_within (count - i) (superclasses P.classes) class) o w
    → ((n : ℕ) → deallocs_run P D bound (ancestry_within (suc n) (superclasses P.classes) class) o w ≡ then_do (dealloc_run P D bound dealloc o w) (λ _ w1. deallocs_run P D bound (ancestry_within n (superclasses P.classes) above) o w1))
    → result ≡ Err e → Reports view (Err e) (dealloc_run P D bound dealloc o w) after → Reports other result whole after
layer_failed P D bound whole count i o class dealloc above w after view other e result below old layer failed h =
    let go = λ (u : Finished) (w1 : World). deallocs_run P D bound (ancestry_within (count - (i + 1)) (superclasses P.classes) above) o w1 in
    subst (λ x. Reports other x whole after) (sym failed)
    (finds_through e view other after go (dealloc_run P D bound dealloc o w) whole (layer_run P D bound whole count i o class dealloc above w below old layer) h)

-- ---- fields that are dropped

-- the fields of an object of a known class
abbrev known_class : Option ℕ → ℕ
known_class None = 0
known_class (Some class) = class

pub emptied_is : (D : Callees) (classes : List Class) (o class : ℕ) (ob : Option Object) (order : List ℕ) (w next : World) → D.classes ≡ classes → Some class ≡ class_in ob → order ≡ field_order classes class
    → next ≡ turned Emptying o ob w → emptied D o ob w ≡ fields_dropped D order o next
emptied_is D classes o class None order w next same known listed turns = absurd (cc)
emptied_is D classes o class (Some ob) order w next same known listed turns =
    let one : ob.class ≡ class = sym (ap known_class known) in
    let fields : field_order D.classes ob.class ≡ order = ap (λ l. field_order l ob.class) same ∙ ap (field_order classes) one ∙ sym listed in
    ap (λ l. fields_dropped D l o (turned Emptying o (Some ob) w)) fields ∙ ap (fields_dropped D order o) (sym turns)
