-- At each action of a lowered program there is what the action needs, by the heights of the program, and these heights, with what its functions give, fit its actions.
-- Each function and each stub stands in the program with its heights; a message finds the stub of the method that is meant, and a class the stub of its dealloc.
use Rattle.std.proofs.Common.{◌≡◌, ℕ, zero, suc, ◌+◌, is_some, List, [], ◌∷◌, length, Option, Some, None, refl, sym, ap, subst, slice_get, ◌++◌, arith, length-append, zero-add, add-one, inl, ◌-◌, ◌≤◌, pos, if◌then◌else◌, ◌∙◌, add-zero, slice_index_or, map, get_or}
use Rattle.std.proofs.lemmas.Bool.{eqb-true, and_parts, lt-ltb, false≢true}
use Rattle.arc_ast.specs.declared.tree.Sign.{Sign}
use Rattle.arc_spec.specs.declared.class.Method.{Method}
use Rattle.arc_spec.specs.declared.class.Gives.{Gives}
use Rattle.arc_spec.specs.declared.class.Gives.TheVariants as gives
use Rattle.arc_spec.specs.Classes.{Class, superclasses, ancestry, first_that_has, own_methods, found, lookup, descends, own_dealloc, field_counts, strong_counts, above_class, field_order, same_gives}
use Rattle.arc_spec.specs.Meaning.{function_at, function_places, nothing_giving}
use Rattle.arc_spec.specs.Resolved as resolved
use Rattle.arc_ir.specs.ActionSteps.{Program, Action, lands, entry, linked as linked_program}
use Rattle.arc_code.specs.Effects.{passes, as_object, no_height, FitsAt, SameResult, GivesAt, HeightsFit}
use Rattle.arc_lower.specs.Lowered.{entries_of, stub_actions, dealloc_actions, methods_actions, class_actions, classes_actions, linked_methods, linked_classes, running_actions, classes_linked, all_functions, number_of_nothing, number_of, call_actions, end_step_of, entry_of, function_actions, functions_actions, entries_from, start_actions, leave_actions, body_actions, lowered, slots_of, parameters_of, passing_actions, opening_actions, take_actions, own_actions, leaving_action, pop_actions, declare_actions, keep_actions, all_empty_actions, no_turn, Between}
use Rattle.arc_lower.proofs.CaseAnalysis.{by_test}
use Rattle.arc_lower.proofs.CountsKept.{seam}
use Rattle.arc_lower.proofs.RecountedSteps.{Part, each_front, each_back, each_at, each_from, HasAt, at, executes_at, bare}
use Rattle.arc_spec.specs.Resolved.{Function}
use Rattle.arc_code.specs.declared.instr.Instr.TheVariants.{Return, EndStep, Plain, Jump, Call, Empty, JumpZero}
use Rattle.arc_lower.specs.PlainActions.{PlainAction, plain_actions, plain_action}
use Rattle.arc_lower.specs.Size.{object_parameters, owned_by}
use Rattle.arc_code.specs.declared.effect.Height.{Height}
use Rattle.arc_lower.specs.Heights.{height, Walk, next_walk, walk_heights, between, heights, start_heights, function_heights, stub_heights, dealloc_heights, in_function, functions_marks, methods_marks, classes_marks, lowered_marks, next_height, walk, highest, greatest, functions_heights, methods_heights, classes_heights, lowered_heights, greatest_height, places_in, height_at, no_mark, result_at}
use Rattle.arc_lower.proofs.ActionCount.{call_length}
use Rattle.arc_lower.proofs.StackAccess.{get_below}
use Rattle.std.proofs.lemmas.Option.{get_or_from_slice_get, slice_get_within, slice_get-map}
use Rattle.std.proofs.lemmas.Bool.Decides.{nat_tests}
use Rattle.arc_code.specs.declared.instr.Op.{Op}
use Rattle.arc_code.specs.declared.instr.Op.TheVariants.{Num, Pop, Set}
use Rattle.arc_ir.specs.declared.action.Target.TheVariants.{At}
use Rattle.arc_lower.proofs.StackEffect.{Reaches, Alike, alike_same, Types, types_then, passing_types, call_types, declare_types, take_types, IsCalled, nothing_there}
use Rattle.arc_lower.proofs.StepHeights.{part_all, some_same, Leaves, Takes, Empties, role, role_of, Clears, Stands, Goes, calm_free, Steps, StepsAt, AllStep, no_steps, step_then, step_one, opens_goes, action_steps, Lies, Row, lies_of, Walks, typed_steps, Emptied, way_stands, body_does}
use Rattle.std.specs.Option.{option_map}
use Rattle.std.proofs.lemmas.List.{map-append}

places_by : (given : Gives) (n : ℕ) → (if same_gives given gives.Object then suc n else n) ≡ n + as_object given
places_by given n = search arith

-- what stands in a list stands in each that begins with it
get_front : {A : Type 0} (xs ys : List A) (i : ℕ) (x : A) → slice_get xs i ≡ Some x → slice_get (xs ++ ys) i ≡ Some x
get_front (y ∷ xs) ys (suc i) x e = get_front xs ys i x e
get_front _ ys i x e = grind arith

-- a function gives what is wanted of it
pub function_gives : (R : resolved.Program) (wanted : Gives) (f : ℕ) → (function_at R wanted f).gives ≡ wanted
function_gives R wanted f = grind arith

nothing_numbered : (R : resolved.Program) (wanted : Gives) → slice_get (all_functions R) (number_of_nothing R wanted) ≡ Some (nothing_giving wanted)
nothing_numbered R gives.Number = seam R.functions _ _
nothing_numbered R gives.Object = simp add-one at (get_below R.functions (nothing_giving gives.Number ∷ nothing_giving gives.Object ∷ []) 1)

pub numbered : (R : resolved.Program) (wanted : Gives) (f : ℕ) → slice_get (all_functions R) (number_of R wanted f) ≡ Some (function_at R wanted f)
numbered R wanted f = grind (arith, by_test, get_front, nothing_numbered, nothing_there)

in_append : (given : Gives) (a b : List Height) → in_function given (a ++ b) ≡ in_function given a ++ in_function given b
in_append given [] b = refl
in_append given (h ∷ a) b = ap (λ l. (h, given) ∷ l) (in_append given a b)

module _ (R : resolved.Program) where
  -- the actions of the whole program, and the heights before them
  abbrev pub all : List PlainAction
  all = lowered R

  abbrev pub table : List (Height × Gives)
  table = lowered_marks R

  -- actions and their heights stand there
  abbrev pub Both : ℕ → List (Height × Gives) → List PlainAction → Type 0
  Both pc hs xs = Part table pc hs × Part all pc xs

  pub both_split : (pc : ℕ) (a b : List (Height × Gives)) (xs ys : List PlainAction) → length a ≡ length xs → Both pc (a ++ b) (xs ++ ys) → Both pc a xs × Both (pc + length xs) b ys
  both_split pc a b xs ys e f = search (arith, each_front, each_back)

  -- as many marks as actions
  pub marks_length : (given : Gives) (low : Height) (w : Walk) (xs : List PlainAction) → length (in_function given (walk_heights R low w xs)) ≡ length xs
  marks_length given low w [] = refl
  marks_length given low w (x ∷ xs) = ap suc (marks_length given low (next_walk R low x w) xs)

  -- ---- functions

  abbrev FunctionAt : ℕ → Function → Type 0
  FunctionAt place g = Both place (in_function g.gives (function_heights R place g)) (function_actions R place g)

  abbrev Functions : ℕ → List Function → Type 0
  Functions place fs = Both place (functions_marks R place fs) (functions_actions R place fs)

  functions_length : (fs : List Function) (place : ℕ) → length (functions_marks R place fs) ≡ length (functions_actions R place fs)
  functions_length [] place = refl
  functions_length (g ∷ fs) place = search (arith, in_append, length-append, marks_length, functions_length fs)

  pub functions_split : (place : ℕ) (g : Function) (fs : List Function) → Functions place (g ∷ fs) → FunctionAt place g × Functions (place + length (function_actions R place g)) fs
  functions_split place g fs has = both_split place _ _ _ _ (search (arith, in_append, length-append, marks_length)) has

  -- a function stands where it is entered
  pub record Found (entries : List ℕ) (n : ℕ) (f : Function) : Type 0 where
    pub place : ℕ
    pub entry : slice_get entries n ≡ Some (entry_of place f)
    pub code : FunctionAt place f

  find : (fs : List Function) (place n : ℕ) (f : Function) → slice_get fs n ≡ Some f → Functions place fs → Found (entries_from R place fs) n f
  find [] place n f e has = cc
  find (g ∷ fs) place zero f e has = subst (Found (entries_from R place (g ∷ fs)) 0) (some_same g f e) (record { place = place; entry = refl; code = (functions_split place g fs has).0 })
  find (g ∷ fs) place (suc n) f e has = search (arith, find fs (place + length (function_actions R place g)) n f e (functions_split place g fs has).1)

  -- ---- stubs

  abbrev pub stub : (wanted : Gives) → (values objects f : ℕ) → List PlainAction
  stub = stub_actions R (entries_of R)

  -- a function's stub for so many numbers stands at a place
  abbrev pub Stub : (wanted : Gives) → (values objects f place : ℕ) → Type 0
  Stub wanted values objects f place = Both place (in_function wanted (stub_heights R (entries_of R) wanted values objects f)) (stub wanted values objects f)

  -- the stubs of a class, and those of the classes after it
  abbrev pub Methods : ℕ → List Method → Type 0
  Methods place ms = Both place (methods_marks R (entries_of R) ms) (methods_actions R (entries_of R) ms)

  abbrev pub Dealloc : ℕ → Option ℕ → Type 0
  Dealloc place d = Both place (in_function gives.Number (dealloc_heights R (entries_of R) d)) (dealloc_actions R (entries_of R) d)

  abbrev pub Classes : ℕ → List Class → Type 0
  Classes place cs = Both place (classes_marks R (entries_of R) cs) (classes_actions R (entries_of R) cs)

  methods_length : (ms : List Method) → length (methods_marks R (entries_of R) ms) ≡ length (methods_actions R (entries_of R) ms)
  methods_length [] = refl
  methods_length (m ∷ others) = search (arith, length-append, marks_length, methods_length others)

  dealloc_length : (d : Option ℕ) → length (in_function gives.Number (dealloc_heights R (entries_of R) d)) ≡ length (dealloc_actions R (entries_of R) d)
  dealloc_length None = refl
  dealloc_length (Some f) = marks_length _ _ _ _

  methods_split : (place : ℕ) (m : Method) (others : List Method) → Methods place (m ∷ others)
      → Stub m.gives (passes m.sign m.takes) m.objects m.runs place × Methods (place + length (stub m.gives (passes m.sign m.takes) m.objects m.runs)) others
  methods_split place m others has = both_split place _ _ _ _ (marks_length _ _ _ _) has

  pub classes_split : (place : ℕ) (c : Class) (others : List Class) → Classes place (c ∷ others)
      → Dealloc place c.dealloc × Methods (place + length (dealloc_actions R (entries_of R) c.dealloc)) c.methods × Classes (place + length (class_actions R (entries_of R) c)) others
  classes_split place c others has =
      let parts = both_split place _ _ _ _ (search (arith, length-append, dealloc_length, methods_length)) has in
      let own = both_split place _ _ _ _ (dealloc_length c.dealloc) parts.0 in
      (own.0, own.1, parts.1)

  -- ---- the program

  stands : Both 0 (in_function gives.Number (start_heights R)) (start_actions R) × Functions (length (start_actions R)) (all_functions R) × Classes (length (running_actions R)) R.classes
  stands =
      let functions = functions_marks R (length (start_actions R)) (all_functions R) in
      let starts = in_function gives.Number (start_heights R) in
      let parts = both_split 0 (starts ++ functions) _ (running_actions R) _ (search (arith, length-append, marks_length, functions_length)) (part_all table, part_all all) in
      let running = both_split 0 starts _ (start_actions R) _ (marks_length _ _ _ (start_actions R)) parts.0 in
      (running.0, simp zero-add at running.1, simp zero-add at parts.1)

  pub start_stands : Both 0 (in_function gives.Number (start_heights R)) (start_actions R)
  start_stands = stands.0

  -- the action at which the ends of objects go on
  pub end_is : slice_get all (end_step_of R) ≡ Some EndStep
  end_is =
      let has = each_back _ 0 (call_actions R gives.Number R.main 0 0) (Return ∷ (EndStep ∷ [])) start_stands.1 in
      subst (λ n. slice_get all n ≡ Some EndStep) (omega (arith, call_length R gives.Number R.main)) has.1.0

  -- ---- what a lookup finds

  -- both are nothing, or a function and its stub
  abbrev pub Meets : (wanted : Gives) → (values objects : ℕ) → (meant stands : Option ℕ) → Type 0
  Meets wanted values objects None None = Unit {0}
  Meets wanted values objects (Some f) (Some place) = Stub wanted values objects f place
  Meets wanted values objects _ _ = ⊥

  -- the same messages find a function among the first methods and its stub among the others
  abbrev Answer : List Method → List Method → Type 0
  Answer meant stand = (sign : Sign) (selector takes objects : ℕ) (wanted : Gives)
      → Meets wanted (passes sign takes) objects (found sign selector takes objects wanted meant) (found sign selector takes objects wanted stand)

  -- no class, or one with the same superclass, fields, dealloc and methods, which are stubs
  abbrev pub Same : Option Class → Option Class → Type 0
  Same c d = (above_class d ≡ above_class c) × (field_counts d ≡ field_counts c) × Meets gives.Number 0 0 (own_dealloc c) (own_dealloc d) × Answer (own_methods c) (own_methods d) × (is_some d ≡ is_some c)

  -- these classes are those of the program, linked to their stubs
  pub record Linked (cs : List Class) : Type 0 where
    pub same : (i : ℕ) → Same (slice_get R.classes i) (slice_get cs i)
    pub above : superclasses cs ≡ superclasses R.classes

  found_meets : (ms : List Method) (place : ℕ) → Methods place ms → Answer ms (linked_methods R (entries_of R) place ms)
  found_meets [] place has sign selector takes objects wanted = tt
  found_meets (m ∷ others) place has sign selector takes objects wanted =
      let parts = methods_split place m others has in
      grind (arith, by_test, and_parts, eqb-true, parts.0, found_meets others _ parts.1)

  classes_same : (cs : List Class) (place : ℕ) → Classes place cs → (i : ℕ) → Same (slice_get cs i) (slice_get (linked_classes R (entries_of R) place cs) i)
  classes_same [] place has i = search arith
  classes_same (c ∷ others) place has zero =
      let parts = classes_split place c others has in
      (refl, refl, search (arith, parts.0), found_meets c.methods _ parts.1, refl)
  classes_same (c ∷ others) place has (suc i) = search (arith, classes_same others _ (classes_split place c others has).2 i)

  linked_superclasses : (cs : List Class) (place : ℕ) → superclasses (linked_classes R (entries_of R) place cs) ≡ superclasses cs
  linked_superclasses [] place = refl
  linked_superclasses (c ∷ others) place = search (arith, linked_superclasses others)

  pub stubs_linked : Linked (classes_linked R)
  stubs_linked = search (arith, classes_same, stands.2, linked_superclasses)

  first_meets : (wanted : Gives) (values objects : ℕ) (meant stands : ℕ → Option ℕ) → ((i : ℕ) → Meets wanted values objects (meant i) (stands i)) → (classes : List ℕ)
      → Meets wanted values objects (first_that_has meant classes) (first_that_has stands classes)
  first_meets wanted values objects meant stands same [] = tt
  first_meets wanted values objects meant stands same (i ∷ above) = search (arith, same i, first_meets wanted values objects meant stands same above)

  module _ (cs : List Class) (links : Linked cs) where
    -- looking a method up among the linked classes comes to the stub of what is meant
    pub lookup_meets : (sign : Sign) (from : Option ℕ) (selector takes objects : ℕ) (wanted : Gives) → Meets wanted (passes sign takes) objects (lookup R.classes from sign selector takes objects wanted) (lookup cs from sign selector takes objects wanted)
    lookup_meets sign from selector takes objects wanted =
        rw links.above (first_meets wanted (passes sign takes) objects _ _ (λ i. (links.same i).3 sign selector takes objects wanted) (ancestry (superclasses R.classes) from))

    pub found_same : (from : Option ℕ) (sign : Sign) (selector takes objects : ℕ) (wanted : Gives) → is_some (lookup cs from sign selector takes objects wanted) ≡ is_some (lookup R.classes from sign selector takes objects wanted)
    found_same from sign selector takes objects wanted = search (arith, lookup_meets sign from selector takes objects wanted)

    pub descent_same : (from : Option ℕ) (other : ℕ) → descends cs from other ≡ descends R.classes from other
    descent_same from other = rw links.above refl

    all_strong_same : (classes : List ℕ) → strong_counts cs classes ≡ strong_counts R.classes classes
    all_strong_same [] = refl
    all_strong_same (class ∷ others) = search (arith, links.same, all_strong_same others)

    -- the fields of an object are destroyed in the same order
    pub action_same : (class : ℕ) → field_order cs class ≡ field_order R.classes class
    action_same class = search (arith, links.same, all_strong_same)

  pub function_found : (wanted : Gives) (f : ℕ) → Found (entries_of R) (number_of R wanted f) (function_at R wanted f)
  function_found wanted f = search (arith, find, numbered, stands.1)

  abbrev Goes_to : Gives → ℕ → Height → Type 0
  Goes_to = Goes R all table

  abbrev Steps_to : (from to : ℕ) → Type 0
  Steps_to = AllStep R all table

  abbrev Step_all : ℕ → List PlainAction → Type 0
  Step_all pc xs = Steps_to pc (pc + length xs)

  steps_append : (pc : ℕ) (xs ys : List PlainAction) → Step_all pc xs → Step_all (pc + length xs) ys → Step_all pc (xs ++ ys)
  steps_append pc xs ys first next = subst (Steps_to pc) (omega (arith, length-append xs ys)) (step_then R all table first next)

  none_at : (pc : ℕ) → Step_all pc []
  none_at pc = let e : pc ≡ pc + 0 = omega arith in subst (Steps_to pc) e (no_steps R all table pc)

  -- ---- one function

  -- up to the place after them
  abbrev RowTo : (end : ℕ) → Gives → (base : Height) → ℕ → Height → List PlainAction → Type 0
  RowTo end given base pc h = Row R all table given base (λ q v. q ≡ end) pc (walk h [])

  row : (given : Gives) (base h : Height) (pc : ℕ) (xs : List PlainAction) → Both pc (in_function given (heights R base h xs)) xs → RowTo (pc + length xs) given base pc h xs
  row given base h pc xs f = record { lies = lies_of R all table given base (λ q v. q ≡ pc + length xs) pc (walk h []) xs f.0 f.1 refl }

  -- actions that go on with the next one each
  typed_walks : {end : ℕ} {given : Gives} {base h g : Height} {pc : ℕ} (xs others : List PlainAction) → Types R 0 0 h xs g → RowTo end given base pc h (xs ++ others)
      → Walks R all table given base (λ q v. q ≡ end) (Unit {0}) (λ after. after ≡ []) pc h (length xs) g others
  typed_walks xs others typed rows = typed_steps R all table _ _ _ 0 0 (Unit {0}) (λ u. (refl, refl)) (λ after. after ≡ []) _ _ [] xs _ others refl typed rows

  -- a function begins with its places, and takes what it is given
  opening_types : (g : Function) → Types R 0 0 (height g.slots (object_parameters g) 0 0) (opening_actions g) (between g.slots (function_places g))
  opening_types g =
      let places = function_places g in
      let objects = object_parameters g in
      let base = between g.slots places in
      let few : objects ≤ places - owned_by g = grind (arith, nat_tests) in
      types_then R 0 0 _ (declare_actions places) (height g.slots objects 0 places) _ _ (declare_types R 0 0 places _ _ refl (omega arith))
      (types_then R 0 0 _ (take_actions (owned_by g) objects) base _ _ (take_types R 0 0 (owned_by g) objects _ _ (omega (arith, few)) (omega arith))
      (by_test (λ b. Types R 0 0 base (if b then own_actions places else []) base) g.owns (λ e. search (arith, alike_same)) (λ e. refl)))

  module _ (g : Function) where
    abbrev places : ℕ
    places = function_places g

    -- where it is left
    abbrev leaving : Height
    leaving = between (suc g.slots) places

    abbrev last_actions : List PlainAction
    last_actions = leaving_action g.gives ∷ []

    abbrev Rows : (end : ℕ) → ℕ → Height → List PlainAction → Type 0
    Rows end pc h = Lies R all table g.gives (between g.slots places) (λ q v. q ≡ end) pc (walk h [])

    -- ---- it is left with its variables emptied, and with its result alone

    -- where it is left so, and each of these actions has what it needs
    abbrev Left : (end : ℕ) → ℕ → ℕ → Height → Type 0
    Left end n pc h = Emptied R all table g.gives n pc h × Steps_to pc end

    last_steps : (given : Gives) → g.gives ≡ given → (pc : ℕ) (h : Height) → Alike h (height 1 0 0 places) → Steps R all table g.gives h pc (leaving_action given)
    last_steps given e pc h at = search (arith, places_by)

    -- one that takes a number, and those after it
    takes_left : (o : Op) (end pc : ℕ) (h : Height) → role (Plain o) ≡ Takes → Reaches o h → slice_get table pc ≡ Some (h, g.gives) → slice_get all pc ≡ Some (Plain o)
        → Left end 0 (pc + 1) (next_height R (Plain o) h) → Left end 0 pc h
    takes_left o end pc h takes reaches height is rest =
        let again : Clears R all table 0 (pc + 1) → Clears R all table 0 pc = λ c. (suc c.0, (ap role_of is ∙ takes, c.1)) in
        let step = step_one R all table g.gives height is (reaches, (rest.0.0, λ k c. inl (subst (λ j. Clears R all table j (pc + 1) → Clears R all table j pc) (sym (rest.0.1 k c)) again c)), inl rest.0.2) in
        (way_stands R all table g.gives 0 pc h (Plain o) Takes refl takes height is, step_then R all table step rest.1)

    pops_left : (n end pc : ℕ) (h : Height) → Alike h (height (suc n) 0 0 places) → Rows end pc h (pop_actions n ++ last_actions) → Left end 0 pc h
    pops_left zero end pc h at f =
        (way_stands R all table g.gives 0 pc h (leaving_action g.gives) Leaves refl (search arith) f.0 f.1, subst (Steps_to pc) f.2 (step_one R all table g.gives f.0 f.1 (last_steps g.gives refl pc h at)))
    pops_left (suc n) end pc h at f = takes_left Pop end pc h refl (omega arith) f.0 f.1 (pops_left n end (pc + 1) (next_height R (Plain Pop) h) (omega arith) f.2)

    keep_left : (n end pc : ℕ) (h : Height) → Alike h (height (suc n) 0 0 places) → Rows end pc h (keep_actions n ++ last_actions) → Left end 0 pc h
    keep_left zero end pc h at f = pops_left zero end pc h at f
    keep_left (suc n) end pc h at f = takes_left (Set n) end pc h refl (omega arith) f.0 f.1 (pops_left n end (pc + 1) (next_height R (Plain (Set n)) h) (omega arith) f.2)

    emptied_left : (n end pc : ℕ) → n ≤ places → Rows end pc leaving (all_empty_actions places 0 n ++ (keep_actions g.slots ++ last_actions)) → Left end n pc leaving
    emptied_left zero end pc le f = keep_left g.slots end pc leaving (omega arith) f
    emptied_left (suc n) end pc le f =
        let later = keep_actions g.slots ++ last_actions in
        let stays : next_height R (Empty (0 + n)) leaving ≡ leaving = alike_same _ _ (omega arith) in
        let is : all_empty_actions places 0 (suc n) ≡ Empty (0 + n) ∷ all_empty_actions places 0 n = ap (λ b. (if b then Empty (0 + n) ∷ [] else []) ++ all_empty_actions places 0 n) (lt-ltb (0 + n) places (omega (arith, le))) in
        let row1 = subst (λ xs. Rows end pc leaving (xs ++ later)) is f in
        let rest = emptied_left n end (pc + 1) (omega (arith, le)) (subst (λ h. Rows end (pc + 1) h (all_empty_actions places 0 n ++ later)) stays row1.2) in
        let next = subst (Stands R all table g.gives (pc + 1)) (sym stays) rest.0.0 in (
          way_stands R all table g.gives (suc n) pc leaving (Empty (0 + n)) (Empties (0 + n)) (omega arith) refl row1.0 row1.1,
          step_then R all table (step_one R all table g.gives row1.0 row1.1 (omega (arith, le), next, λ k c. let same = rest.0.1 k c in inl (omega (arith, same)), rest.0.2)) rest.1,
        )

  -- a run may enter a function, and each of its actions has what it needs
  g_steps : (place : ℕ) (g : Function) → FunctionAt place g
      → Goes_to g.gives (entry_of place g) (height g.slots (object_parameters g) 0 0) × Step_all place (function_actions R place g)
  g_steps place g here =
      let given = g.gives in
      let base = between g.slots (function_places g) in
      let begun = height g.slots (object_parameters g) 0 0 in
      let start = entry_of place g + length (opening_actions g) in
      let leave = leave_actions g in
      let body = body_actions R place (entry_of place g) g in
      let parts = both_split place _ _ leave body (marks_length given base (walk (leaving g) []) leave) (subst (λ l. Both place l (leave ++ body)) (in_append given _ _) here) in
      let left = emptied_left g g.names (entry_of place g) place (omega (arith, places_by given g.names)) (row given base (leaving g) place leave parts.0).lies in
      let exit : Goes_to given place (leaving g) = (left.0.0, λ k c. let e = left.0.1 k c in omega (arith, e, places_by given g.names), left.0.2) in
      let opened = typed_walks (opening_actions g) _ (opening_types g) (row given base begun (entry_of place g) body parts.1) in
      let stated = (body_does R all table given 0 0 g.slots (function_places g) place base (λ q v. q ≡ entry_of place g + length body) refl refl g.body (Between start no_turn)).walks opened.to [] _ refl (rw opened.kept at opened.on) in
      let end = stated.on.lies in
      let up : next_height R (Plain (Num (pos 0))) base ≡ leaving g = alike_same _ _ (omega arith) in
      let jump = opens_goes R all table given (stated.to + 1) _ (Jump (At place)) refl end.2.0 end.2.1 in
      let run = stated.go (record { turn = no_turn; here = ap (λ q. Between q no_turn) (sym opened.size); ways = λ s. absurd (false≢true s); alone = (refl, refl); leaves = exit })
      (opens_goes R all table given stated.to base (Plain (Num (pos 0))) refl end.0 end.1) in
      let entered = opened.go tt run.0 in
      let ends = step_then R all table (step_one R all table given end.0 end.1 (action_steps R all table given (Plain (Num (pos 0))) stated.to base (omega arith) jump))
      (step_one R all table given (end.2.0 ∙ ap (λ h. Some (h, given)) up) end.2.1 (0, omega arith, exit)) in
      (entered.0, subst (Steps_to place) (end.2.2 ∙ omega (arith, length-append leave body)) (step_then R all table left.1 (step_then R all table entered.1 (step_then R all table run.1 ends))))

  -- ---- all functions

  functions_step : (fs : List Function) (place : ℕ) → Both place (functions_marks R place fs) (functions_actions R place fs) → Step_all place (functions_actions R place fs)
  functions_step [] place has = none_at place
  functions_step (g ∷ fs) place has =
      let parts = functions_split place g fs has in
      steps_append place _ _ (g_steps place g parts.0).1 (functions_step fs _ parts.1)

  -- ---- stubs

  -- the height at which a function is called
  abbrev called : (wanted : Gives) → (f : ℕ) → Height
  called wanted f = height (slots_of R wanted f) (parameters_of R wanted f) 0 0

  stub_goes : (wanted : Gives) (values objects f place : ℕ) → Stub wanted values objects f place → Goes_to wanted place (height values objects 0 0)
      × (Goes_to wanted (slice_index_or (entries_of R) (number_of R wanted f) 0) (called wanted f) → Step_all place (stub wanted values objects f))
  stub_goes wanted values objects f place has =
      let jump = Jump (At (slice_index_or (entries_of R) (number_of R wanted f) 0)) in
      let typed : Types R 0 0 (height values objects 0 0) (passing_actions R wanted f values objects) (called wanted f) = simp add-zero at (passing_types R 0 0 wanted f values objects 0 0 0 0) in
      let passed = typed_walks (passing_actions R wanted f values objects) (jump ∷ []) typed (row wanted no_height (height values objects 0 0) place (stub wanted values objects f) has) in
      let next = (rw passed.kept at passed.on).lies in
      let run = passed.go tt (opens_goes R all table wanted passed.to (called wanted f) jump refl next.0 next.1) in
      (run.0, λ goes. subst (Steps_to place) next.2 (step_then R all table run.1 (step_one R all table wanted next.0 next.1 (0, omega arith, goes))))

  module _ (target : (wanted : Gives) (f : ℕ) → Goes_to wanted (slice_index_or (entries_of R) (number_of R wanted f) 0) (called wanted f)) where
    methods_step : (ms : List Method) (place : ℕ) → Methods place ms → Step_all place (methods_actions R (entries_of R) ms)
    methods_step [] place has = none_at place
    methods_step (m ∷ others) place has =
        let parts = methods_split place m others has in
        steps_append place _ _ ((stub_goes m.gives (passes m.sign m.takes) m.objects m.runs place parts.0).1 (target m.gives m.runs)) (methods_step others _ parts.1)

    dealloc_steps : (d : Option ℕ) (place : ℕ) → Dealloc place d → Step_all place (dealloc_actions R (entries_of R) d)
    dealloc_steps None place has = none_at place
    dealloc_steps (Some f) place has = (stub_goes gives.Number 0 0 f place has).1 (target gives.Number f)

    classes_step : (cs : List Class) (place : ℕ) → Classes place cs → Step_all place (classes_actions R (entries_of R) cs)
    classes_step [] place has = none_at place
    classes_step (c ∷ others) place has =
        let parts = classes_split place c others has in
        steps_append place _ _ (steps_append place _ _ (dealloc_steps c.dealloc place parts.0) (methods_step c.methods _ parts.1)) (classes_step others _ parts.2)

  -- ---- what messages and ends of objects find

  meets_goes : (wanted : Gives) (values objects : ℕ) (meant stands : Option ℕ) (to : ℕ) → Meets wanted values objects meant stands → stands ≡ Some to → Goes_to wanted to (height values objects 0 0)
  meets_goes wanted values objects (Some f) (Some place) to meets e = subst (λ n. Goes_to wanted n (height values objects 0 0)) (some_same place to e) (stub_goes wanted values objects f place meets).0
  meets_goes wanted values objects _ _ to meets e = absurd (grind arith)

  same_goes : (a b : Option Class) (d : Class) (to : ℕ) → Same a b → b ≡ Some d → d.dealloc ≡ Some to → Goes_to gives.Number to no_height
  same_goes (Some c) (Some x) d to same is e = meets_goes gives.Number 0 0 c.dealloc x.dealloc to same.2 (ap (λ (y : Class). y.dealloc) (some_same x d is) ∙ e)
  same_goes _ _ d to same is e = absurd (grind arith)

  pub methods_go : (from : Option ℕ) (sign : Sign) (selector takes objects : ℕ) (wanted : Gives) (to : ℕ) → lookup (classes_linked R) from sign selector takes objects wanted ≡ Some to → Goes_to wanted to (height (passes sign takes) objects 0 0)
  methods_go from sign selector takes objects wanted to = meets_goes wanted (passes sign takes) objects (lookup R.classes from sign selector takes objects wanted) _ to (lookup_meets (classes_linked R) stubs_linked sign from selector takes objects wanted)

  pub dealloc_goes : (i : ℕ) (d : Class) (to : ℕ) → slice_get (classes_linked R) i ≡ Some d → d.dealloc ≡ Some to → Goes_to gives.Number to (height 0 0 0 0)
  dealloc_goes i d to = same_goes (slice_get R.classes i) (slice_get (classes_linked R) i) d to (stubs_linked.same i)

  -- ---- the program

  -- a function is entered with its variables
  pub entered_at : (wanted : Gives) (f : ℕ) → (at : ℕ) × (slice_get (entries_of R) (number_of R wanted f) ≡ Some at) × Goes_to wanted at (called wanted f)
  entered_at wanted f =
      let there = function_found wanted f in
      let place = entry_of there.place (function_at R wanted f) in
      (place, there.entry, subst (λ g. Goes_to g place (called wanted f)) (function_gives R wanted f) (g_steps there.place (function_at R wanted f) there.code).0)

  target : (wanted : Gives) (f : ℕ) → Goes_to wanted (slice_index_or (entries_of R) (number_of R wanted f) 0) (called wanted f)
  target wanted f =
      let e = entered_at wanted f in
      subst (λ n. Goes_to wanted n (called wanted f)) (sym (get_or_from_slice_get (entries_of R) (number_of R wanted f) e.0 0 e.1)) e.2

  -- main is called, and leaves its result alone
  started : Goes_to gives.Number 0 no_height × Step_all 0 (start_actions R)
  started =
      let result = height 1 0 0 0 in
      let typed : Types R 0 0 no_height (call_actions R gives.Number R.main 0 0) result = simp add-zero at (call_types R 0 0 gives.Number 0 0 0 R.main 0 0 0) in
      let passed = typed_walks (call_actions R gives.Number R.main 0 0) (Return ∷ (EndStep ∷ [])) typed (row gives.Number no_height no_height 0 (start_actions R) start_stands) in
      let next = (rw passed.kept at passed.on).lies in
      let home : Stands R all table gives.Number passed.to result = record { height = next.0; plain_action = Return; is = next.1; no_end = λ end. cc } in
      let run = passed.go tt (home, λ k c. omega arith, calm_free R all table passed.to Leaves tt (ap role_of next.1)) in
      let ends = step_then R all table (step_one R all table gives.Number next.0 next.1 (refl, refl, refl, refl)) (step_one R all table gives.Number next.2.0 next.2.1 (refl, refl, refl, refl)) in
      (run.0, subst (Steps_to 0) next.2.2 (step_then R all table run.1 ends))

  pub start_goes : Goes_to gives.Number 0 no_height
  start_goes = started.0

  pub steps_at : (pc : ℕ) (x : PlainAction) → slice_get (lowered R) pc ≡ Some x → StepsAt R all table pc x
  steps_at pc x e =
      let steps : Step_all 0 (lowered R) =
      steps_append 0 (running_actions R) _ (steps_append 0 (start_actions R) _ started.1 (rw zero-add (functions_step (all_functions R) (length (start_actions R)) stands.1)))
      (rw zero-add (classes_step target R.classes (length (running_actions R)) stands.2)) in
      steps pc x (omega arith) (omega (arith, slice_get_within (lowered R) pc x e)) e

module _ (p : Program) (R : resolved.Program) (is : plain_actions p.actions ≡ lowered R) where
  -- the actions of a part of the program's actions
  pub has_part : (pc : ℕ) (xs : List PlainAction) → Part (lowered R) pc xs → HasAt p pc xs
  has_part pc xs part = each_from _ pc xs (λ i x e frames stack held.
      executes_at p p.actions (pc + i) x (at frames (pc + i) stack held) (subst (λ l. slice_get l (pc + i) ≡ Some x) (sym is) (each_at _ pc i xs x part e)))

-- ---- the greatest

abbrev AtMost : Height → Height → Type 0
AtMost a b = (a.numbers ≤ b.numbers) × (a.names ≤ b.names) × (a.temporaries ≤ b.temporaries) × (a.variables ≤ b.variables)

greatest_more : (hs : List Height) (most : Height) → AtMost most (greatest hs most)
greatest_more [] most = search arith
greatest_more (h ∷ hs) most = let more = greatest_more hs (highest most h) in search arith

none_greater : (hs : List Height) (most none : Height) (pc : ℕ) → AtMost none most → AtMost (get_or hs pc none) (greatest hs most)
none_greater (h ∷ hs) most none (suc pc) low = none_greater hs (highest most h) none pc (search arith)
none_greater _ most none pc low = search (arith, greatest_more)

-- ---- heights with what functions give

abbrev firsts : List (Height × Gives) → List Height
firsts = map (λ (m : Height × Gives). m.0)

firsts_in : (given : Gives) (hs : List Height) → firsts (in_function given hs) ≡ hs
firsts_in given [] = refl
firsts_in given (h ∷ hs) = ap (λ l. h ∷ l) (firsts_in given hs)

module _ (R : resolved.Program) where
  functions_firsts : (fs : List Function) (place : ℕ) → firsts (functions_marks R place fs) ≡ functions_heights R place fs
  functions_firsts [] place = refl
  functions_firsts (f ∷ fs) place = simp (map-append, firsts_in, functions_firsts fs (place + length (function_actions R place f)))

  methods_firsts : (ms : List Method) → firsts (methods_marks R (entries_of R) ms) ≡ methods_heights R (entries_of R) ms
  methods_firsts [] = refl
  methods_firsts (m ∷ ms) = simp (map-append, firsts_in, methods_firsts ms)

  classes_firsts : (cs : List Class) → firsts (classes_marks R (entries_of R) cs) ≡ classes_heights R (entries_of R) cs
  classes_firsts [] = refl
  classes_firsts (c ∷ cs) = simp (map-append, firsts_in, methods_firsts, classes_firsts cs)

-- ---- the program

module _ (p : Program) (R : resolved.Program) where
  there : (pc : ℕ) (h : Height) (given : Gives) → slice_get (table R) pc ≡ Some (h, given) → height_at R pc ≡ h
  there pc h given e =
      let same : firsts (lowered_marks R) ≡ lowered_heights R = simp (map-append, firsts_in, functions_firsts R, classes_firsts R) in
      get_or_from_slice_get (lowered_heights R) pc h no_height
      (ap (λ l. slice_get l pc) (sym same) ∙ slice_get-map (λ (m : Height × Gives). m.0) (table R) pc ∙ ap (option_map (λ (m : Height × Gives). m.0)) e)

  gives_there : (pc : ℕ) (h : Height) (given : Gives) → slice_get (table R) pc ≡ Some (h, given) → result_at R pc ≡ given
  gives_there pc h given e = ap (λ (m : Height × Gives). m.1) (get_or_from_slice_get (table R) pc (h, given) no_mark e)

  module _ (calls : (wanted : Gives) (f : ℕ) → IsCalled R wanted f → Goes R (all R) (table R) wanted (entry p f) (height (slots_of R wanted f) (parameters_of R wanted f) 0 0)) (given : Gives) where
    plain_action_fits : (pc : ℕ) (h : Height) (x : PlainAction) → slice_get (table R) pc ≡ Some (h, given) → Steps R (all R) (table R) given h pc x → FitsAt (bare p) (height_at R) pc x
    plain_action_fits pc h (JumpZero to) now s = rw (there pc h given now, there (pc + 1) _ given s.1.0.height, there (lands pc to) _ given s.2.2.0.height) (search arith)
    plain_action_fits pc h (Call f wanted) now s = λ to found.
        let begun : height_at R (entry p f) ≡ height (slots_of R wanted f) (parameters_of R wanted f) 0 0 = there (entry p f) _ wanted
        (calls wanted f s.0.1).0.height in
        let same = ap (height_at R) (sym (some_same (entry p f) to found)) ∙ begun in
        rw (same, there pc h given now, there (pc + 1) _ given s.1.0.height) (search arith)
    plain_action_fits pc h (Plain o) now s = rw (there pc h given now, there (pc + 1) _ given s.1.0.height) (search arith)
    plain_action_fits pc h _ now s = grind (arith, there)

    -- a run stays in its function
    module _ (pc : ℕ) (h : Height) (now : slice_get (table R) pc ≡ Some (h, given)) where
      same_at : (to : ℕ) (g : Height) → slice_get (table R) to ≡ Some (g, given) → SameResult (bare p) (result_at R) pc to
      same_at to g next = gives_there to g given next ∙ sym (gives_there pc h given now)

      plain_action_gives : (x : PlainAction) → Steps R (all R) (table R) given h pc x → GivesAt (bare p) (result_at R) pc x
      plain_action_gives (Call f wanted) s = (same_at (pc + 1) _ s.1.0.height, λ to found. ap (result_at R) (sym (some_same (entry p f) to found)) ∙ gives_there (entry p f) _ wanted (calls wanted f s.0.1).0.height)
      plain_action_gives _ s = grind (arith, same_at, gives_there)

  module _ (is : plain_actions p.actions ≡ lowered R) (entries : p.entries ≡ entries_of R) where
    -- a function is entered with its variables
    pub entry_goes : (wanted : Gives) (f : ℕ) → IsCalled R wanted f → Goes R (all R) (table R) wanted (entry p f) (height (slots_of R wanted f) (parameters_of R wanted f) 0 0)
    entry_goes wanted f same =
        let there = entered_at R wanted f in
        let found : get_or p.entries f (length p.actions) ≡ there.0 = get_or_from_slice_get p.entries f there.0 (length p.actions)
        (ap (λ l. slice_get l f) entries ∙ ap (slice_get (entries_of R)) (sym same) ∙ there.1) in
        subst (λ n. Goes R (all R) (table R) wanted n (height (slots_of R wanted f) (parameters_of R wanted f) 0 0)) (sym found) there.2

    few : (pc : ℕ) → AtMost (height_at R pc) (greatest_height R)
    few pc = none_greater (lowered_heights R) no_height no_height pc (search arith)

    -- an action fits wherever the bytes of its text lie
    fits : (pc : ℕ) (x : Action) → slice_get p.actions pc ≡ Some x → FitsAt (linked_program p) (height_at R) pc x × GivesAt (linked_program p) (result_at R) pc x
    fits pc x e =
        let s = steps_at R pc (plain_action x) (subst (λ l. slice_get l pc ≡ Some (plain_action x)) is (slice_get-map plain_action p.actions pc ∙ ap (option_map plain_action) e)) in
        let h = plain_action_fits entry_goes s.0.1 pc s.0.0 (plain_action x) s.1 s.2 in
        let g = plain_action_gives entry_goes s.0.1 pc s.0.0 s.1 (plain_action x) s.2 in
        search (arith, h, g)

    pub heights_fit : p.classes ≡ classes_linked R → HeightsFit (linked_program p) (height_at R) (result_at R) (greatest_height R).numbers (greatest_height R).names (places_in (greatest_height R))
    heights_fit classes = record {
      at = λ pc x e. (fits pc x e).0;
      results = λ pc x e. (fits pc x e).1;
      methods = λ from sign selector takes objects wanted to e.
          let found = methods_go R from sign selector takes objects wanted to (subst (λ cs. lookup cs from sign selector takes objects wanted ≡ Some to) classes e) in
          let same = there to (height (passes sign takes) objects 0 0) wanted found.0.height in
          (omega (arith, ap (λ (x : Height). x.numbers) same), omega (arith, ap (λ (x : Height). x.names) same), gives_there to (height (passes sign takes) objects 0 0) wanted found.0.height);
      numbers_most = λ pc. (few pc).0;
      names_most = λ pc. (few pc).1;
      places_most = λ pc. let f = few pc in omega (arith, f.2, f.3);
    }
