-- What the interpreter reports of loops, arguments and function numbers, and that the failure of a part is the whole's.
use Rattle.std.specs.Prelude.{if◌then◌else◌}
use Rattle.std.proofs.Common.{rules, Bool, true, ◌≡◌, ℕ, zero, suc, ◌+◌, ◌-◌, ◌<◌, ◌≤◌, ℤ, false, List, [], ◌∷◌, ◌++◌, length, get_or, drop, Option, Some, None, Result, Err, Box, Global, append_assoc, refl, sym, ap, subst, ◌∙◌}
use Rattle.std.proofs.lemmas.List.{drop_more}
use native.Mathlib.Omega.{arith}
use Rattle.arc_checked.specs.declared.program.Value.{Value}
use Rattle.arc_checked.specs.declared.program.Command.{Command}
use Rattle.arc_checked.specs.declared.program.Reference.{Reference}
use Rattle.arc_checked.specs.declared.program.Argument as g
use Rattle.arc_checked.specs.declared.program.Argument.{Argument}
use Rattle.arc_checked.specs.Checked.{functions, value, reference, arguments, and_argument, command}
use Rattle.arc_ast.specs.declared.tree.Moment.TheVariants.{After}
use Rattle.arc_spec.specs.declared.class.Gives.{Gives}
use Rattle.arc_spec.specs.Resolved as resolved
use Rattle.arc_spec.specs.Classes.{Class, same_gives}
use Rattle.arc_spec.specs.World.{World, Outcome, Done, Faulted, Cut, then_do, Given}
use Rattle.arc_spec.specs.Number.{is_zero}
use Rattle.arc_checked.specs.declared.program.CheckedFunction.{CheckedFunction}
use Rattle.arc_plain.specs.declared.halt.Halt.{Halt}
use Rattle.arc_plain.specs.declared.halt.Halt.TheVariants.{Stopped, Cut, Memory}
use Rattle.arc_spec.specs.Meaning as meaning
use Rattle.arc_spec.specs.Meaning.{Callees, Normal, Broken, Continued, Returned, level, called, and_number, and_object, turns, looped, chosen, if_normal, in_turn, after_body, nothing_giving, function_at, ended, evaluated, referred, all_evaluated, executed}
use Rattle.arc_plain.specs.declared.statement.Flow.{Flow}
use Rattle.arc_plain.specs.Views.{Reports, flow_of, function_of, leaving, step_of, past_body, turn_of}

-- arguments, and those after them
abbrev pub joined : Given → Given → Given
joined found rest = record { numbers = found.numbers ++ rest.numbers; objects = found.objects ++ rest.objects }

abbrev pub with_numbers : Given → List ℤ → Given
with_numbers found numbers = record found { numbers = numbers }

abbrev pub with_named : Given → List ℕ → Given
with_named found named = record found { objects = named }

-- the arguments that were found, in front of those to come
abbrev pub front : Given → Outcome Given → Outcome Given
front found rest = then_do rest (λ passed w. Done (joined found passed) w)

pub nothing_below : {A : Type 0} {n : ℕ} → n < 0 → A
nothing_below {A} {n} h = search (rules, h)

-- a failure of a part is one of the whole
pub finds_through : {A B C D : Type 0} → (e : Halt) (f : A → B) (g : C → D) (w : World) (go : B → World → Outcome D) (part : Outcome B) (whole : Outcome D)
    → whole ≡ then_do part go → Reports f (Err e) part w → Reports g (Err e) whole w
finds_through (Stopped fault) f g w go part whole is h = is ∙ ap (λ o. then_do o go) h
finds_through Cut f g w go part whole is h = is ∙ ap (λ o. then_do o go) h
finds_through Memory f g w go part whole is h = tt

-- what is reported of the expression that a value stands for
pub value_reported : (D : Callees) (v : Value) (meant : resolved.Value) (r : Result ℤ Halt) (w after : World)
    → value v ≡ meant → Reports (λ n. n) r (evaluated D meant w) after → Reports (λ n. n) r (evaluated D (value v) w) after
value_reported D v meant r w after is h = subst (λ x. Reports (λ n. n) r (evaluated D x w) after) (sym is) h

-- what is reported of the statement that a command stands for
pub command_reported : (D : Callees) (bound : ℕ) (c : Command) (meant : resolved.Command) (r : Result Flow Halt) (w after : World)
    → command c ≡ meant → Reports flow_of r (executed D bound meant w) after → Reports flow_of r (executed D bound (command c) w) after
command_reported D bound c meant r w after is h = subst (λ x. Reports flow_of r (executed D bound x w) after) (sym is) h

number_front : (found : Given) (n : ℤ) (o : Outcome Given) → front found (then_do o (λ passed w. Done (and_number n passed) w)) ≡ front (record found { numbers = found.numbers ++ n ∷ [] }) o
number_front found n (Done passed w) = ap (λ l. Done (record { numbers = l; objects = found.objects ++ passed.objects }) w) (sym (append_assoc found.numbers (n ∷ []) passed.numbers))
number_front found n (Faulted f w) = refl
number_front found n (Cut w) = refl

object_front : (found : Given) (r : ℕ) (o : Outcome Given) → front found (then_do o (λ passed w. Done (and_object r passed) w)) ≡ front (record found { objects = found.objects ++ r ∷ [] }) o
object_front found r (Done passed w) = ap (λ l. Done (record { numbers = found.numbers ++ passed.numbers; objects = l }) w) (sym (append_assoc found.objects (r ∷ []) passed.objects))
object_front found r (Faulted f w) = refl
object_front found r (Cut w) = refl

-- what one argument is, of which the part is known
pub is_number : (v : Argument) (a : Box Value Global) (got : Value) → v ≡ g.Number a → got ≡ a.value → (others : resolved.Arguments) → and_argument v others ≡ resolved.number_argument (value got) others
is_number v a got is same others = ap (λ x. and_argument x others) is ∙ ap (λ x. resolved.number_argument (value x) others) (sym same)

pub is_object : (v : Argument) (a : Box Reference Global) (got : Reference) → v ≡ g.Object a → got ≡ a.value → (others : resolved.Arguments) → and_argument v others ≡ resolved.object_argument (reference got) others
is_object v a got is same others = ap (λ x. and_argument x others) is ∙ ap (λ x. resolved.object_argument (reference x) others) (sym same)

-- one number more
pub number_step : (D : Callees) (vs : List Argument) (i : ℕ) (v : Argument) (a : resolved.Value) (found more : Given) (n : ℤ) (whole : Outcome Given) (w after : World)
    → i < length vs → v ≡ get_or vs i v → ((others : resolved.Arguments) → and_argument v others ≡ resolved.number_argument a others) → whole ≡ front found (all_evaluated D (arguments (drop i vs)) w)
    → evaluated D a w ≡ Done n after → more ≡ record found { numbers = found.numbers ++ n ∷ [] } → whole ≡ front more (all_evaluated D (arguments (drop (i + 1) vs)) after)
number_step D vs i v a found more n whole w after below is kind old done grown =
    let rest = arguments (drop (i + 1) vs) in
    old ∙ ap (λ l. front found (all_evaluated D (arguments l) w)) (drop_more vs i v below ∙ ap (λ x. x ∷ drop (i + 1) vs) (sym is))
    ∙ ap (λ l. front found (all_evaluated D l w)) (kind rest)
    ∙ ap (λ o. front found (then_do o (λ x w1. then_do (all_evaluated D rest w1) (λ passed w2. Done (and_number x passed) w2)))) done
    ∙ number_front found n (all_evaluated D rest after)
    ∙ ap (λ l. front l (all_evaluated D rest after)) (sym grown)

-- one object more
pub object_step : (D : Callees) (vs : List Argument) (i : ℕ) (v : Argument) (a : resolved.Reference) (found more : Given) (r : ℕ) (whole : Outcome Given) (w after : World)
    → i < length vs → v ≡ get_or vs i v → ((others : resolved.Arguments) → and_argument v others ≡ resolved.object_argument a others) → whole ≡ front found (all_evaluated D (arguments (drop i vs)) w)
    → referred D a w ≡ Done r after → more ≡ record found { objects = found.objects ++ r ∷ [] } → whole ≡ front more (all_evaluated D (arguments (drop (i + 1) vs)) after)
object_step D vs i v a found more r whole w after below is kind old done grown =
    let rest = arguments (drop (i + 1) vs) in
    old ∙ ap (λ l. front found (all_evaluated D (arguments l) w)) (drop_more vs i v below ∙ ap (λ x. x ∷ drop (i + 1) vs) (sym is))
    ∙ ap (λ l. front found (all_evaluated D l w)) (kind rest)
    ∙ ap (λ o. front found (then_do o (λ x w1. then_do (all_evaluated D rest w1) (λ passed w2. Done (and_object x passed) w2)))) done
    ∙ object_front found r (all_evaluated D rest after)
    ∙ ap (λ l. front l (all_evaluated D rest after)) (sym grown)

-- a loop goes on with this, unless it was left
abbrev pub goes_on : Option meaning.Flow → (World → Outcome meaning.Flow) → World → Outcome meaning.Flow
goes_on None next w = next w
goes_on (Some flow) next w = Done flow w

-- what follows a body that was left so
rest_is : (flow : meaning.Flow) (rest : World → Outcome (Option meaning.Flow)) (go next : World → Outcome meaning.Flow) (w : World) → ((w1 : World) → go w1 ≡ then_do (rest w1) (λ o w2. goes_on o next w2))
    → after_body flow go w ≡ then_do (past_body flow rest w) (λ o w1. goes_on o next w1)
rest_is Normal rest go next w h = h w
rest_is Continued rest go next w h = h w
rest_is Broken rest go next w h = refl
rest_is (Returned v) rest go next w h = refl

-- a turn, and what comes after it
turn_is : (rest : World → Outcome (Option meaning.Flow)) (body go next : World → Outcome meaning.Flow) (w : World) → ((w1 : World) → go w1 ≡ then_do (rest w1) (λ o w2. goes_on o next w2))
    → then_do (body w) (λ flow w1. after_body flow go w1) ≡ then_do (turn_of rest body w) (λ o w1. goes_on o next w1)
turn_is rest body go next w h = of (body w)
  where
    of : (o : Outcome meaning.Flow) → then_do o (λ flow w1. after_body flow go w1) ≡ then_do (then_do o (λ flow w1. past_body flow rest w1)) (λ o w1. goes_on o next w1)
    of (Done flow w1) = rest_is flow rest go next w1 h
    of (Faulted f w1) = refl
    of (Cut w1) = refl

step_is : (step next : World → Outcome meaning.Flow) (w : World) → in_turn step next w ≡ then_do (step_of step w) (λ o w1. goes_on o next w1)
step_is step next w = of (step w)
  where
    of : (o : Outcome meaning.Flow) → then_do o (λ flow w1. if_normal flow next w1) ≡ then_do (then_do o (λ flow w1. Done (leaving flow) w1)) (λ o w1. goes_on o next w1)
    of (Done Normal w1) = refl
    of (Done Broken w1) = refl
    of (Done Continued w1) = refl
    of (Done (Returned v) w1) = refl
    of (Faulted f w1) = refl
    of (Cut w1) = refl

-- what a loop comes to, once its test isn't 0
turns_on : (bound i : ℕ) (test : World → Outcome ℤ) (step body : World → Outcome meaning.Flow) (whole : Outcome meaning.Flow) (n : ℤ) (w between : World)
    → i < bound → whole ≡ turns (bound - i) test step body w → test w ≡ Done n between → is_zero n ≡ false
    → whole ≡ then_do (turn_of (step_of step) body between) (λ o w1. goes_on o (turns (bound - (i + 1)) test step body) w1)
turns_on bound i test step body whole n w between below old tested holds =
    let left = bound - (i + 1) in
    let next = turns left test step body in
    let one : bound - i ≡ suc left = omega (arith, below) in
    old ∙ ap (λ m. turns m test step body w) one
    ∙ ap (λ o. then_do o (λ v w1. chosen (is_zero v) (then_do (body w1) (λ flow w2. after_body flow (in_turn step next) w2)) (Done Normal w1))) tested
    ∙ ap (λ b. chosen b (then_do (body between) (λ flow w2. after_body flow (in_turn step next) w2)) (Done Normal between)) holds
    ∙ turn_is (step_of step) body (in_turn step next) next between (step_is step next)

-- a test that fails
pub test_failed : {A : Type 0} (view : A → ℤ) (left : ℕ) (test : World → Outcome ℤ) (step body : World → Outcome meaning.Flow) (whole : Outcome meaning.Flow) (e : Halt) (r : Result Flow Halt) (w after : World)
    → whole ≡ turns left test step body w → r ≡ Err e → Reports view (Err e) (test w) after → Reports flow_of r whole after
test_failed view zero test step body whole e r w after old failed h =
    subst (λ x. Reports flow_of x whole after) (sym failed) (finds_through e view flow_of after (λ v w1. chosen (is_zero v) (Cut w1) (Done Normal w1)) (test w) whole old h)
test_failed view (suc n) test step body whole e r w after old failed h =
    subst (λ x. Reports flow_of x whole after) (sym failed)
    (finds_through e view flow_of after (λ v w1. chosen (is_zero v) (then_do (body w1) (λ flow w2. after_body flow (in_turn step (turns n test step body)) w2)) (Done Normal w1)) (test w) whole old h)

-- one turn more
pub turns_step : (bound i : ℕ) (test : World → Outcome ℤ) (step body : World → Outcome meaning.Flow) (whole : Outcome meaning.Flow) (n : ℤ) (w between after : World)
    → i < bound → whole ≡ turns (bound - i) test step body w → test w ≡ Done n between → is_zero n ≡ false → turn_of (step_of step) body between ≡ Done None after
    → whole ≡ turns (bound - (i + 1)) test step body after
turns_step bound i test step body whole n w between after below old tested holds done =
    turns_on bound i test step body whole n w between below old tested holds ∙ ap (λ o. then_do o (λ l w1. goes_on l (turns (bound - (i + 1)) test step body) w1)) done

-- a turn that leaves the loop
pub turns_left : (bound i : ℕ) (test : World → Outcome ℤ) (step body : World → Outcome meaning.Flow) (whole : Outcome meaning.Flow) (n : ℤ) (flow : meaning.Flow) (w between after : World)
    → i < bound → whole ≡ turns (bound - i) test step body w → test w ≡ Done n between → is_zero n ≡ false → turn_of (step_of step) body between ≡ Done (Some flow) after → whole ≡ Done flow after
turns_left bound i test step body whole n flow w between after below old tested holds done =
    turns_on bound i test step body whole n w between below old tested holds ∙ ap (λ o. then_do o (λ l w1. goes_on l (turns (bound - (i + 1)) test step body) w1)) done

-- a turn that fails
pub turn_failed : {A : Type 0} (view : A → Option meaning.Flow) (bound i : ℕ) (test : World → Outcome ℤ) (step body : World → Outcome meaning.Flow) (whole : Outcome meaning.Flow) (n : ℤ) (e : Halt) (r : Result Flow Halt) (w between after : World)
    → i < bound → whole ≡ turns (bound - i) test step body w → test w ≡ Done n between → is_zero n ≡ false → r ≡ Err e → Reports view (Err e) (turn_of (step_of step) body between) after
    → Reports flow_of r whole after
turn_failed view bound i test step body whole n e r w between after below old tested holds failed h =
    subst (λ x. Reports flow_of x whole after) (sym failed)
    (finds_through e view flow_of after (λ o w1. goes_on o (turns (bound - (i + 1)) test step body) w1) (turn_of (step_of step) body between) whole (turns_on bound i test step body whole n w between below old tested holds) h)

-- the first turn of a loop that begins with its body, and what comes after it
first_turn : (bound more : ℕ) (test : World → Outcome ℤ) (step body : World → Outcome meaning.Flow) (w : World)
    → bound ≡ suc more → looped After bound test step body w ≡ then_do (turn_of (step_of step) body w) (λ o w1. goes_on o (turns more test step body) w1)
first_turn bound more test step body w one =
    let next = turns more test step body in
    ap (λ m. looped After m test step body w) one ∙ turn_is (step_of step) body (in_turn step next) next w (step_is step next)

pub first_step : (bound more : ℕ) (test : World → Outcome ℤ) (step body : World → Outcome meaning.Flow) (w after : World)
    → bound ≡ suc more → turn_of (step_of step) body w ≡ Done None after → looped After bound test step body w ≡ turns more test step body after
first_step bound more test step body w after one done =
    first_turn bound more test step body w one ∙ ap (λ o. then_do o (λ l w1. goes_on l (turns more test step body) w1)) done

pub first_left : (bound more : ℕ) (test : World → Outcome ℤ) (step body : World → Outcome meaning.Flow) (flow : meaning.Flow) (w after : World)
    → bound ≡ suc more → turn_of (step_of step) body w ≡ Done (Some flow) after → looped After bound test step body w ≡ Done flow after
first_left bound more test step body flow w after one done =
    first_turn bound more test step body w one ∙ ap (λ o. then_do o (λ l w1. goes_on l (turns more test step body) w1)) done

pub first_failed : {A : Type 0} (view : A → Option meaning.Flow) (bound more : ℕ) (test : World → Outcome ℤ) (step body : World → Outcome meaning.Flow) (e : Halt) (r : Result Flow Halt) (w after : World)
    → bound ≡ suc more → r ≡ Err e → Reports view (Err e) (turn_of (step_of step) body w) after → Reports flow_of r (looped After bound test step body w) after
first_failed view bound more test step body e r w after one failed h =
    subst (λ x. Reports flow_of x (looped After bound test step body w) after) (sym failed)
    (finds_through e view flow_of after (λ o w1. goes_on o (turns more test step body) w1) (turn_of (step_of step) body w) (looped After bound test step body w) (first_turn bound more test step body w one) h)

-- a call and an end, one level deeper
pub call_is : (P : resolved.Program) (bound levels n : ℕ) (wanted : Gives) (f self : ℕ) (passed : Given) (w : World) → levels ≡ suc n
    → (level P bound levels).call wanted f self passed w ≡ called (level P bound n) bound (function_at P wanted f) self passed w
call_is P bound levels n wanted f self passed w is = ap (λ m. (level P bound m).call wanted f self passed w) is

pub end_is : (P : resolved.Program) (bound levels n o : ℕ) (w : World) → levels ≡ suc n → (level P bound levels).end_of o w ≡ ended P (level P bound n) bound o w
end_is P bound levels n o w is = ap (λ m. (level P bound m).end_of o w) is

-- the classes are the same at each level
pub level_classes : (P : resolved.Program) (bound levels : ℕ) → (level P bound levels).classes ≡ P.classes
level_classes P bound zero = refl
level_classes P bound (suc n) = refl

-- the function of a number, where it gives what is wanted
abbrev pub giving : Gives → resolved.Function → resolved.Function
giving wanted f = if same_gives f.gives wanted then f else nothing_giving wanted

pub giving_same : (wanted : Gives) (f : resolved.Function) → same_gives f.gives wanted ≡ true → giving wanted f ≡ f
giving_same wanted f same = ap (λ b. if b then f else nothing_giving wanted) same

pub giving_other : (wanted : Gives) (f : resolved.Function) → same_gives f.gives wanted ≡ false → giving wanted f ≡ nothing_giving wanted
giving_other wanted f other = ap (λ b. if b then f else nothing_giving wanted) other

pub function_found : (cs : List CheckedFunction) (classes : List Class) (globals : List ℤ) (strong main : ℕ) (wanted : Gives) (f : ℕ) (g : CheckedFunction) → f < length cs → g ≡ get_or cs f g
    → function_at (record { functions = functions cs; main = main; globals = globals; strong_globals = strong; classes = classes }) wanted f ≡ giving wanted (function_of g)
function_found [] classes globals strong main wanted f g below is = nothing_below below
function_found (c ∷ cs) classes globals strong main wanted zero g below is = ap (λ x. giving wanted (function_of x)) (sym is)
function_found (c ∷ cs) classes globals strong main wanted (suc f) g below is = function_found cs classes globals strong main wanted f g (omega (arith, below)) is

pub function_missing : (cs : List CheckedFunction) (classes : List Class) (globals : List ℤ) (strong main : ℕ) (wanted : Gives) (f : ℕ) → length cs ≤ f
    → function_at (record { functions = functions cs; main = main; globals = globals; strong_globals = strong; classes = classes }) wanted f ≡ nothing_giving wanted
function_missing [] classes globals strong main wanted f past = refl
function_missing (c ∷ cs) classes globals strong main wanted zero past = nothing_below past
function_missing (c ∷ cs) classes globals strong main wanted (suc f) past = function_missing cs classes globals strong main wanted f (omega (arith, past))
