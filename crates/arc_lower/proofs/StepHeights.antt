-- At actions that stand with their heights there is what each needs, and it goes on to actions whose heights are those that it leaves.
-- It is shown for each sort of block, of its actions wherever they stand, and so for each form of expression and statement.
use Rattle.std.proofs.Common.{◌≡◌, ◌⊎◌, ◌||◌, inl, inr, ℕ, zero, suc, ◌+◌, ◌<◌, ◌≤◌, Bool, true, false, nat_lt, if◌then◌else◌, List, [], ◌∷◌, ◌++◌, length, drop, get_or, Option, Some, None, slice_get, refl, sym, ap, ◌∙◌, subst, arith, length-append, pos, ◌-◌, is_some, append_assoc, append-nil}
use Rattle.std.proofs.lemmas.Bool.{ltb-true, ltb-false, or_parts}
use Rattle.arc_spec.specs.Resolved as resolved
use Rattle.arc_spec.specs.declared.class.Gives.{Gives}
use Rattle.arc_spec.specs.declared.class.Gives.TheVariants as gives
use Rattle.arc_spec.specs.Classes.{init_selector}
use Rattle.arc_code.specs.declared.effect.Height.{Height}
use Rattle.arc_code.specs.Effects.{as_object, as_number, operation_effect}
use Rattle.arc_code.specs.declared.instr.Op.{Op}
use Rattle.arc_code.specs.declared.instr.Op.TheVariants.{Num, Pop, Set, Alloc, Forget}
use Rattle.arc_code.specs.declared.instr.Instr.TheVariants.{Plain, Jump, JumpZero, SendTo, Settle, Give, Return, Empty, EndStep}
use Rattle.arc_ir.specs.declared.action.Target.{Target}
use Rattle.arc_ir.specs.declared.action.Target.TheVariants.{Skip, Back}
use Rattle.arc_ir.specs.ActionSteps.{lands}
use Rattle.arc_lower.specs.PlainActions.{PlainAction}
use Rattle.arc_lower.specs.Lowered.{drop_actions, making_actions, turn_actions, Entry, AtStep, AtTest, AtBody, enter_actions, enter_size, Spot, Inside, Between, past, turn_at, body_spot, Block, Making, IfNew, Then, Fork, Quit, Advance, FullExpression, flat, full_expression_actions, full_object_expression_actions, forget_actions, print_actions, action_takes, Idle, One, Clear, Calls, SendsMessage, message_to, below_arguments, new_block, receiver_block, Assign, below_new, narrow_block, update_block, value_block, reference_block, arguments_block, full_expression_block, full_object_expression_block, nothing_given, command_block, commands_block, Surroundings, within_scopes, leaving, command_actions, all_empty_actions, store_actions, entry, spot}
use Rattle.arc_lower.specs.Size.{has_new, number_count, object_count, unused, does_nothing}
use Rattle.arc_lower.specs.declared.frame.Turn.{Turn}
use Rattle.arc_lower.specs.Heights.{between, next_height, Walk, walk, other_part, next_walk, walk_heights, last_walk, in_function, height, last_height}
use Rattle.arc_lower.proofs.RecountedSteps.{Part, each_from}
use Rattle.arc_lower.proofs.StackEffect.{alike_same, over, Reaches, Needs, Types, with_temporaries, made_height, types_then, forgets_type, print_types, get_types, set_types, call_types, store_types, read_types, all_empty_type}
use Rattle.arc_lower.proofs.CaseAnalysis.{by_test}
use Rattle.std.proofs.lemmas.List.Folds.{list_any-append}
use Rattle.std.specs.List.{list_any}
use Rattle.arc_ast.specs.declared.tree.BinaryOperator.{BinaryOperator}
use Rattle.arc_ast.specs.declared.tree.Kind.{Kind}
use Rattle.arc_ast.specs.declared.tree.Moment.{Moment}
use Rattle.arc_spec.specs.declared.location.Location.TheVariants.{Local}
use Rattle.arc_spec.specs.Resolved.{Value, Print, Unary, Binary, Conditional, Convert, Read, AssignNumber, Update, Call, Send, ClassValue, ClassSuper, ObjectValue, ObjectSuper, GetField, SetField, UpdateField, Reference, Variable, ObjectConditional, AssignObject, GetObjectField, SetObjectField, New, ObjectCall, ObjectSend, Receiver, Arguments, no_arguments, number_argument, object_argument, Command, Sequence, Evaluate, EvaluateReference, InitVariable, If, While, Break, Continue, Commands, no_commands, and_command, Program, Number}
use Rattle.arc_lower.specs.KnownKinds.{binary_kind, known_kind}
use Rattle.arc_lower.specs.declared.frame.Scope.{Scope}
use Rattle.arc_spec.specs.declared.location.Location.{Location}

-- where the parts of a loop's turn stand, and where its jumps lead
turn_places : (pc e n m k : ℕ) {begin test out end : ℕ} → begin ≡ pc + e → test ≡ begin + n → out ≡ test + m → end ≡ out + 1 + k
    → (end + 1 ≡ pc + (e + n + m + k + 2)) × (lands end (Back (suc (n + m + k))) ≡ begin) × (lands out (Skip (suc k)) ≡ end + 1) × (out ≡ begin + n + m) × (test ≡ pc + e + n) × (out + 1 ≡ pc + e + n + m + 1)
turn_places pc e n m k begins tests outs ends = search arith

pub some_same : {A : Type 0} (a b : A) → Some a ≡ Some b → a ≡ b
some_same a b e = cc

pub enter_length : (entry : Entry) (n m : ℕ) → length (enter_actions entry n m) ≡ enter_size entry
enter_length entry n m = search arith

-- ---- actions before which a run leaves its function, where it has emptied its variables

-- What an action is on that way: it leaves the function, takes numbers before, or empties a variable before these. Or it is a message
-- to an object, drops the temporary before the last one, or is the last step of an object's end; all others stay in the function.
pub data Role : Type 0 where
  Leaves : Role
  Takes : Role
  Empties : ℕ → Role
  Messages : Role
  Settles : Role
  Ends : Role
  Stays : Role

abbrev pub role : PlainAction → Role
role Return = Leaves
role Give = Leaves
role (Plain Pop) = Takes
role (Plain (Set depth)) = Takes
role (Empty i) = Empties i
role (SendTo selector takes objects wanted) = Messages
role Settle = Settles
role EndStep = Ends
role _ = Stays

abbrev pub role_of : Option PlainAction → Role
role_of None = Ends
role_of (Some x) = role x

-- one that isn't on the way out of a function
abbrev pub IsInside : Role → Type 0
IsInside Leaves = ⊥
IsInside Takes = ⊥
IsInside (Empties i) = ⊥
IsInside _ = Unit {0}

-- one that drops no temporary, nor needs what a message to an object gives
abbrev pub IsCalm : Role → Type 0
IsCalm Messages = ⊥
IsCalm Settles = ⊥
IsCalm _ = Unit {0}

-- one on the way, before which so many variables aren't emptied yet
abbrev pub OnWay : ℕ → Role → Type 0
OnWay n Leaves = n ≡ 0
OnWay n Takes = n ≡ 0
OnWay n (Empties i) = n ≡ suc i
OnWay n _ = ⊥

module _ (R : resolved.Program) (all : List PlainAction) (table : List (Height × Gives)) where
  abbrev pub role_at : ℕ → Role
  role_at pc = role_of (slice_get all pc)

  -- the next n actions take numbers, and then the function is left
  abbrev pub Leaving : ℕ → ℕ → Type 0
  Leaving zero pc = role_at pc ≡ Leaves
  Leaving (suc n) pc = (role_at pc ≡ Takes) × Leaving n (pc + 1)

  -- the next k actions empty variables, the last one the first variable, and then the function is left
  abbrev pub Clears : ℕ → ℕ → Type 0
  Clears zero pc = (n : ℕ) × Leaving n pc
  Clears (suc k) pc = (role_at pc ≡ Empties k) × Clears k (pc + 1)

  -- there stands no action that drops the temporary before the last one
  abbrev pub Quiet : ℕ → Type 0
  Quiet pc = role_at pc ≡ Settles → ⊥

  -- nor a message to an object before such an action
  abbrev pub Free : ℕ → Type 0
  Free pc = Quiet pc × (role_at pc ≡ Messages → Quiet (pc + 1))

  pub calm_free : (pc : ℕ) (r : Role) → IsCalm r → role_at pc ≡ r → Free pc
  calm_free pc r calm e = (λ s. subst IsCalm (sym e ∙ s) calm, λ m. absurd (subst IsCalm (sym e ∙ m) calm))

  -- the first of these actions is on the way
  clears_way : (k pc : ℕ) → Clears k pc → OnWay k (role_at pc)
  clears_way zero pc (zero, y) = rw y refl
  clears_way zero pc (suc n, y) = rw y.0 refl
  clears_way (suc k) pc c = rw c.0 refl

  -- before such an action no function is left
  pub inside_clears : (pc : ℕ) (r : Role) → IsInside r → role_at pc ≡ r → (k : ℕ) → Clears k pc → ⊥
  inside_clears pc r inside e k c = grind (arith, clears_way k pc c)

  -- in a function that gives this
  module _ (given : Gives) where
    -- an action stands there with this height, which isn't the last step of an object's end
    pub record Stands (pc : ℕ) (h : Height) : Type 0 where
      pub height : slice_get table pc ≡ Some (h, given)
      pub plain_action : PlainAction
      pub is : slice_get all pc ≡ Some plain_action
      pub no_end : role plain_action ≡ Ends → ⊥

    -- a run may go there with any variables: the function isn't left before they are emptied, but for the place of an object that it gives
    abbrev pub Goes : ℕ → Height → Type 0
    Goes pc h = Stands pc h × ((k : ℕ) → Clears k pc → h.variables ≤ k + as_object given) × Free pc

    -- or with those that are emptied where it comes from
    abbrev pub Onward : (pc to : ℕ) → Height → Type 0
    Onward pc to h = Stands to h × ((k : ℕ) → Clears k to → Clears k pc ⊎ (h.variables ≤ k + as_object given))

    -- or with more temporaries there
    abbrev pub Leads : ℕ → Height → Type 0
    Leads to h = (more : ℕ) × (h.temporaries ≤ more) × Goes to (with_temporaries h more)

    -- at this height an action has what it needs, and goes on with what it leaves
    abbrev pub Steps : Height → ℕ → PlainAction → Type 0
    Steps h pc (Plain o) = Reaches o h × Onward pc (pc + 1) (next_height R (Plain o) h) × (Free (pc + 1) ⊎ ((o ≡ Alloc) × Quiet (pc + 1)))
    Steps h pc (SendTo selector takes objects wanted) =
        let g = next_height R (SendTo selector takes objects wanted) h in
        Needs R (SendTo selector takes objects wanted) h × (Stands (pc + 1) g × ((k : ℕ) → Clears k (pc + 1) → g.variables ≤ k + as_object given))
        × (Free (pc + 1) ⊎ ((takes ≡ 0) × (objects ≡ 0) × (wanted ≡ gives.Object) × (slice_get all (pc + 1) ≡ Some Settle)))
    Steps h pc Settle = Goes (pc + 1) (next_height R Settle h)
    Steps h pc (Jump to) = Leads (lands pc to) h
    Steps h pc (JumpZero to) = (1 ≤ h.numbers) × Goes (pc + 1) (next_height R (JumpZero to) h) × Leads (lands pc to) (next_height R (JumpZero to) h)
    Steps h pc Return = (h.numbers ≡ 1) × (h.names ≡ 0) × (h.temporaries ≡ 0) × (given ≡ gives.Number)
    Steps h pc Give = (h.numbers ≡ 1) × (h.names ≡ 0) × (h.temporaries ≡ 0) × (given ≡ gives.Object) × (1 ≤ h.variables)
    Steps h pc EndStep = (h.numbers ≡ 0) × (h.names ≡ 0) × (h.temporaries ≡ 0) × (h.variables ≡ 0)
    Steps h pc (Empty i) = (i < h.variables) × Stands (pc + 1) (next_height R (Empty i) h) × ((k : ℕ) → Clears k (pc + 1) → (k ≡ i) ⊎ (h.variables ≤ k + as_object given)) × Free (pc + 1)
    Steps h pc x = Needs R x h × Goes (pc + 1) (next_height R x h)

  abbrev pub StepsAt : ℕ → PlainAction → Type 0
  StepsAt pc x = (m : Height × Gives) × (slice_get table pc ≡ Some m) × Steps m.1 m.0 pc x

  -- each action from one place up to another has what it needs
  abbrev pub AllStep : (from to : ℕ) → Type 0
  AllStep from to = (pc : ℕ) (x : PlainAction) → from ≤ pc → pc < to → slice_get all pc ≡ Some x → StepsAt pc x

  pub no_steps : (pc : ℕ) → AllStep pc pc
  no_steps pc q x low high = absurd (omega arith)

  pub step_then : {a b c : ℕ} → AllStep a b → AllStep b c → AllStep a c
  step_then {b = b} first next q x low high is = by_test (λ t. StepsAt q x) (nat_lt q b) (λ e. first q x low (ltb-true q b e) is) (λ e. next q x (ltb-false q b e) high is)

  -- ---- in one function

  module _ (given : Gives) where
    pub step_one : {pc : ℕ} {h : Height} {x : PlainAction} → slice_get table pc ≡ Some (h, given) → slice_get all pc ≡ Some x → Steps given h pc x → AllStep pc (pc + 1)
    step_one {pc = pc} {h = h} {x = x} height is s q y low high e =
        let same : pc ≡ q = omega arith in
        subst (λ q. slice_get all q ≡ Some y → StepsAt q y) same (λ e. subst (StepsAt pc) (some_same x y (sym is ∙ e)) ((h, given), height, s)) e

    pub opens_goes : (pc : ℕ) (h : Height) (x : PlainAction) → role x ≡ Stays → slice_get table pc ≡ Some (h, given) → slice_get all pc ≡ Some x → Goes given pc h
    opens_goes pc h x opens e is =
        let at : role_at pc ≡ Stays = ap role_of is ∙ opens in
        (record { height = e; plain_action = x; is = is; no_end = λ end. cc }, λ k c. absurd (inside_clears pc Stays tt at k c), calm_free pc Stays tt at)

    -- an action has what it needs, where a run may go on with the next one
    pub action_steps : (x : PlainAction) (pc : ℕ) (h : Height) → Needs R x h → Goes given (pc + 1) (next_height R x h) → Steps given h pc x
    action_steps (Plain o) pc h needs goes = (needs, (goes.0, λ k c. inr (goes.1 k c)), inl goes.2)
    action_steps (SendTo selector takes objects wanted) pc h needs goes = (needs, (goes.0, goes.1), inl goes.2)
    action_steps (Empty i) pc h needs goes = (needs, goes.0, λ k c. let le = goes.1 k c in inr (omega (arith, le)), goes.2)
    action_steps _ pc h needs goes = search arith

    module _ (base : Height) (last : ℕ → Walk → Type 0) where
      -- actions stand with their heights from a place on; of the place after them and the walk there this holds
      abbrev pub Lies : ℕ → Walk → List PlainAction → Type 0
      Lies pc w [] = last pc w
      Lies pc w (x ∷ xs) = (slice_get table pc ≡ Some (w.height, given)) × (slice_get all pc ≡ Some x) × Lies (pc + 1) (next_walk R base x w) xs

      pub record Row (pc : ℕ) (w : Walk) (xs : List PlainAction) : Type 0 where
        pub lies : Lies pc w xs

      pub lies_of : (pc : ℕ) (w : Walk) (xs : List PlainAction) → Part table pc (in_function given (walk_heights R base w xs)) → Part all pc xs → last (pc + length xs) (last_walk R base w xs) → Lies pc w xs
      lies_of pc w [] hs os ends = let e : pc + 0 ≡ pc = omega arith in subst (λ q. last q w) e ends
      lies_of pc w (x ∷ xs) hs os ends = (hs.0, os.0, lies_of (pc + 1) (next_walk R base x w) xs hs.1 os.1 (subst (λ q. last q (last_walk R base w (x ∷ xs))) (omega arith) ends))

      pub split : {pc : ℕ} {w : Walk} (xs ys zs : List PlainAction) → Row pc w ((xs ++ ys) ++ zs) → Row pc w (xs ++ (ys ++ zs))
      split {pc = pc} {w = w} xs ys zs f = subst (Row pc w) (append_assoc xs ys zs) f

      pub stands_as : {pc : ℕ} {w v : Walk} (xs : List PlainAction) → w ≡ v → Lies pc w xs → Row pc v xs
      stands_as {pc = pc} xs is f = record { lies = subst (λ w. Lies pc w xs) is f }

      -- an action that keeps its place in a function, and isn't the last step of an object's end, nor one that needs two temporaries, before one to which a run may go
      goes_before : (pc : ℕ) (w : Walk) (x : PlainAction) → (role x ≡ Leaves → ⊥) × (role x ≡ Settles → ⊥) × (role x ≡ Ends → ⊥) → slice_get table pc ≡ Some (w.height, given) → slice_get all pc ≡ Some x
          → Goes given (pc + 1) (next_walk R base x w).height → Goes given pc w.height
      goes_before pc w x o height is later =
          (record { height = height; plain_action = x; is = is; no_end = o.2 }, none, (λ s. o.1 (sym at ∙ s), λ m. later.2.0))
        where
          at : role_at pc ≡ role x
          at = ap role_of is

          same : (k : ℕ) → Clears k pc → (next_walk R base x w).height.variables ≡ w.height.variables
          same k c = let way = subst (OnWay k) at (clears_way k pc c) in search (arith, way, o.0)

          none : (k : ℕ) → Clears k pc → w.height.variables ≤ k + as_object given
          none zero (zero, y) = absurd (o.0 (sym at ∙ y))
          none zero (suc n, y) = omega (arith, same zero (suc n, y), later.1 zero (n, y.1))
          none (suc k) c = omega (arith, same (suc k) c, later.1 k c.1)

      -- Such actions come to a place and a height, with these parts that tests may lead to. Under a condition a run may go where they begin, if it may go where they end, and each has what it needs.
      pub record Walks (when : Type 0) (keeps : List Height → Type 0) (pc : ℕ) (h : Height) (n : ℕ) (g : Height) (others : List PlainAction) : Type 0 where
        pub after : List Height
        pub kept : keeps after
        pub to : ℕ
        pub size : to ≡ pc + n
        pub on : Row to (walk g after) others
        pub go : when → Goes given to g → Goes given pc h × AllStep pc to

      pub walked : {when : Type 0} {keeps : List Height → Type 0} {pc : ℕ} {h : Height} {n : ℕ} {g : Height} {others : List PlainAction} (after : List Height) → keeps after → (to : ℕ) → to ≡ pc + n → Row to (walk g after) others
          → (when → Goes given to g → Goes given pc h × AllStep pc to) → Walks when keeps pc h n g others
      walked after kept to size on go = record { after = after; kept = kept; to = to; size = size; on = on; go = go }

      -- actions that go on with the next one each, where so many numbers and variables more may lie below
      module _ (r s : ℕ) (when : Type 0) (alone : when → (r ≡ 0) × (s ≡ 0)) (keeps : List Height → Type 0) where
        pub typed_steps : (pc : ℕ) (h : Height) (pending : List Height) (xs : List PlainAction) (g : Height) (others : List PlainAction)
            → keeps pending → Types R r s h xs g → Row pc (walk h pending) (xs ++ others) → Walks when keeps pc h (length xs) g others
        typed_steps pc h pending [] g others kept t f = subst (λ g. Walks when keeps pc h 0 g others) t (walked pending kept pc (omega arith) f (λ none end. (end, no_steps pc)))
        typed_steps pc h pending (x ∷ xs) g others kept t f =
            let same : next_walk R base x (walk h pending) ≡ walk (next_height R x h) pending = search (arith, t.0) in
            let next = typed_steps (pc + 1) (next_height R x h) pending xs g others kept t.1 (stands_as (xs ++ others) same f.lies.2) in
            walked next.after next.kept next.to (omega arith) next.on (λ none end.
            let rest = next.go none end in
            let needs : Needs R x h = subst (Needs R x) (alike_same (over 0 0 h) h (omega arith)) (rw ((alone none).0, (alone none).1) at t.0) in (
              goes_before pc (walk h pending) x (search arith) f.lies.0 f.lies.1 (subst (λ (w : Walk). Goes given (pc + 1) w.height) (sym same) rest.0),
              step_then (step_one f.lies.0 f.lies.1 (action_steps x pc h needs rest.0)) rest.1,
            ))

    -- ---- actions on the way out of the function

    -- where they begin so many variables aren't emptied yet
    abbrev pub Emptied : ℕ → ℕ → Height → Type 0
    Emptied n pc h = Stands given pc h × ((k : ℕ) → Clears k pc → k ≡ n) × Free pc

    pub way_stands : (n pc : ℕ) (h : Height) (x : PlainAction) (r : Role) → OnWay n r → role x ≡ r → slice_get table pc ≡ Some (h, given) → slice_get all pc ≡ Some x
        → Emptied n pc h
    way_stands n pc h x r e k v m = grind (arith, clears_way)

    -- ---- blocks, in a function that is left from a place, below which so many numbers and variables more lie

    module _ (r s slots names exit : ℕ) where
      abbrev base : Height
      base = between slots names

      -- a test leaves a number above the variables
      abbrev test : Height
      test = between (suc slots) names

      abbrev plain_actions : Spot → Block → List PlainAction
      plain_actions e x = flat R slots names e x

      -- where a block stands, between statements from a place on, or within an expression
      abbrev pub spot_of : (statement : Bool) → ℕ → Turn → Spot
      spot_of true pc turn = Between pc turn
      spot_of false pc turn = Inside

      -- nothing more lies below a block that stands there, and a run may go where the function is left, where the loop goes on with its next turn, and where that is left
      pub record Placed (e : Spot) (looping statement : Bool) (pc : ℕ) : Type 0 where
        pub turn : Turn
        pub here : e ≡ spot_of statement pc turn
        pub ways : looping ≡ true → Goes given turn.out test × Goes given turn.begin base
        pub alone : (r ≡ 0) × (s ≡ 0)
        pub leaves : Goes given exit test

      moved : {e : Spot} {l statement : Bool} {pc q : ℕ} (n : ℕ) → q ≡ pc + n → Placed e l statement pc → Placed (past n e) l statement q
      moved {statement = statement} {pc = pc} n size p =
          record { turn = p.turn; here = search (arith, p.here); ways = p.ways; alone = p.alone; leaves = p.leaves }

      module _ (from : Height) (last : ℕ → Walk → Type 0) where
        -- the parts that tests may lead to all stand between statements, as does what follows where there are none
        abbrev pub AllBase : List Height → Type 0
        AllBase [] = from ≡ base
        AllBase (h ∷ others) = (h ≡ base) × AllBase others

        -- where a block stands between statements a test leaves what is there between them
        abbrev Leaves_between : (statement : Bool) → Height → Type 0
        Leaves_between true i = i ≡ base
        Leaves_between false i = Unit {0}

        -- an expression keeps them as they are
        abbrev pub Keeps : (statement : Bool) → (before after : List Height) → Type 0
        Keeps true before after = AllBase after
        Keeps false before after = before ≡ after

        keeps_rest : (statement : Bool) (i : Height) (before after : List Height) → Keeps statement (i ∷ before) after → Keeps statement before (drop 1 after)
        keeps_rest statement i before after keeps = search arith

        part_same : (statement : Bool) (i h : Height) (before after : List Height) → Leaves_between statement i → Keeps statement (i ∷ before) after → other_part from (walk h after) ≡ with_temporaries i h.temporaries
        part_same statement i h before [] leaves keeps = search arith
        part_same statement i h before (x ∷ after) leaves keeps = search arith

        -- ---- jumps, which lead to a place with what is there before them, or with more temporaries

        jumps : {pc q : ℕ} {i : Height} {to : Target} → slice_get table pc ≡ Some (i, given) → slice_get all pc ≡ Some (Jump to) → (more : ℕ) → i.temporaries ≤ more → lands pc to ≡ q → Goes given q (with_temporaries i more)
            → Goes given pc i × AllStep pc (pc + 1)
        jumps {i = i} height is more le there goes = (opens_goes _ _ _ refl height is, step_one height is (more, le, subst (λ q. Goes given q (with_temporaries i more)) (sym there) goes))

        -- a test, after which the first part stands, leads to the other part
        tests : {pc q : ℕ} {h i : Height} {to : Target} → slice_get table pc ≡ Some (h, given) → slice_get all pc ≡ Some (JumpZero to) → 1 ≤ h.numbers → next_height R (JumpZero to) h ≡ i → Goes given (pc + 1) i
            → (more : ℕ) → i.temporaries ≤ more → lands pc to ≡ q → Goes given q (with_temporaries i more) → Goes given pc h × AllStep pc (pc + 1)
        tests {pc} {h = h} {i = i} {to = to} height is some left first more le there goes =
            let both = subst (λ i. Goes given (pc + 1) i × Leads given (lands pc to) i) (sym left) (first, (more, le, subst (λ q. Goes given q (with_temporaries i more)) (sym there) goes)) in
            (opens_goes pc h (JumpZero to) refl height is, step_one height is (some, both.0, both.1))

        -- what stands after a jump between statements begins at their height
        after_jump : {pc : ℕ} (pending : List Height) {others : List PlainAction} (n : ℕ) → n ≡ 0 → AllBase pending
            → Lies from last pc (walk (with_temporaries (get_or pending 0 from) n) (drop 1 pending)) others → Row from last pc (walk base (drop 1 pending)) others
        after_jump {pc} pending {others} n none all f =
            stands_as from last others (search arith) f

        -- the jump by which a loop is entered, which leads to its step, its test or its body
        enters : (entry : Entry) (n m : ℕ) {pc : ℕ} {pending : List Height} {others : List PlainAction} → AllBase pending → Row from last pc (walk base pending) (enter_actions entry n m ++ others)
            → Walks from last (Goes given (pc + enter_size entry + n) base × Goes given (pc + enter_size entry + n + m + 1) base) AllBase pc base (enter_size entry) base others
        enters AtStep n m {pc} {pending} keeps f = walked from last pending keeps pc (omega arith) f (λ goes begin. (begin, no_steps pc))
        enters AtTest n m {pc} {pending} keeps f =
            walked from last (drop 1 pending) (search arith) (pc + 1) refl (after_jump pending 0 refl keeps f.lies.2) (λ goes begin. jumps f.lies.0 f.lies.1 0 (omega arith) (omega arith) goes.0)
        enters AtBody n m {pc} {pending} keeps f =
            walked from last (drop 1 pending) (search arith) (pc + 1) refl (after_jump pending 0 refl keeps f.lies.2) (λ goes begin. jumps f.lies.0 f.lies.1 0 (omega arith) (omega arith) goes.1)

        -- ---- actions of blocks, wherever they stand

        -- what is known of them, from one height to another
        abbrev Walking : Spot → (looping statement : Bool) → Height → List PlainAction → Height → Type 0
        Walking e looping statement h xs g = (pc : ℕ) (pending : List Height) (others : List PlainAction) → Keeps statement pending pending → Row from last pc (walk h pending) (xs ++ others)
            → Walks from last (Placed e looping statement pc) (Keeps statement pending) pc h (length xs) g others

        pub record Does (e : Spot) (looping statement : Bool) (h : Height) (xs : List PlainAction) (g : Height) : Type 0 where
          pub walks : Walking e looping statement h xs g

        does : {e : Spot} {l statement : Bool} {h : Height} {xs : List PlainAction} {g : Height} → Walking e l statement h xs g → Does e l statement h xs g
        does walks = record { walks = walks }

        -- actions that go on with the next one each
        typed_does : {e : Spot} {l statement : Bool} (h : Height) (xs : List PlainAction) (g : Height) → Types R r s h xs g → Does e l statement h xs g
        typed_does {e} {l} {statement} h xs g t = does (λ pc pending others keeps. typed_steps from last r s (Placed e l statement pc) (λ p. p.alone) (Keeps statement pending) pc h pending xs g others keeps t)

        then_does : {e : Spot} {l statement : Bool} {h i g : Height} {xs ys : List PlainAction} → Does e l statement h xs i → Does (past (length xs) e) l statement i ys g → Does e l statement h (xs ++ ys) g
        then_does {statement = statement} {xs = xs} {ys = ys} first next = does (λ pc pending others keeps f.
            let one = first.walks pc pending (ys ++ others) keeps (split from last xs ys others f) in
            let two = next.walks one.to one.after others (search (arith, one.kept)) one.on in
            walked from last two.after (search (arith, one.after, two.after, one.kept, two.kept)) two.to (omega (arith, length-append xs ys)) two.on (λ p end.
            let rest = two.go (moved (length xs) one.size p) end in
            let begun = one.go p rest.0 in
            (begun.0, step_then begun.1 rest.1)))

        -- an expression between statements
        inside_does : {e : Spot} {l statement : Bool} {h g : Height} {xs : List PlainAction} → Does Inside false false h xs g → Does e l statement h xs g
        inside_does {g = g} all = does (λ pc pending others keeps f.
            let one = all.walks pc pending others refl f in
            walked from last pending keeps one.to one.size (subst (λ l. Row from last one.to (walk g l) others) (sym one.kept) one.on) (λ p.
            one.go (record { turn = p.turn; here = refl; ways = λ s. cc; alone = p.alone; leaves = p.leaves })))

        making_does : {e : Spot} {l statement : Bool} (h g : Height) → 1 ≤ h.numbers → made_height R h ≡ g → Does e l statement h making_actions g
        making_does h g some ends = does (λ pc pending others keeps row.
            let f = row.lies in
            let one = next_height R (Plain Alloc) h in
            let message : PlainAction = SendTo init_selector 0 0 gives.Object in
            let at : Stands given (pc + 1) one × Stands given (pc + 1 + 1) (next_height R message one) =
            (record { height = f.2.0; plain_action = message; is = f.2.1; no_end = λ end. cc }, record { height = f.2.2.0; plain_action = Settle; is = f.2.2.1; no_end = λ end. cc }) in
            let allocates = step_one f.0 f.1 (omega (arith, some), (at.0, λ k c. absurd (inside_clears (pc + 1) Messages tt (ap role_of f.2.1) k c)), inr (refl, λ s. cc)) in
            let sends = step_one f.2.0 f.2.1 ((omega arith, omega arith), (at.1, λ k c. absurd (inside_clears (pc + 1 + 1) Settles tt (ap role_of f.2.2.1) k c)), inr (refl, refl, refl, f.2.2.1)) in
            walked from last pending keeps (pc + 1 + 1 + 1) (omega arith) (stands_as from last others (ap (λ n. walk n pending) ends) f.2.2.2)
            (λ p end. (opens_goes pc h (Plain Alloc) refl f.0 f.1, step_then allocates (step_then sends (step_one f.2.2.0 f.2.2.1 (subst (Goes given (pc + 1 + 1 + 1)) (sym ends) end))))))

        -- a test that leaves a height, and with so many temporaries the second part begins and the first ends
        fork_does : {e : Spot} {l statement : Bool} {xs ys : List PlainAction} {h i g : Height} (more : ℕ) → 1 ≤ h.numbers → next_height R (JumpZero (Skip 0)) h ≡ i → i.temporaries ≤ more → more ≤ g.temporaries → Leaves_between statement i
            → Does (past 1 e) l statement i xs (with_temporaries g more) → Does (past 1 (past (length xs) (past 1 e))) l statement (with_temporaries i more) ys g
            → Does e l statement h (JumpZero (Skip (suc (length xs))) ∷ (xs ++ Jump (Skip (length ys)) ∷ ys)) g
        fork_does {statement = statement} {xs = xs} {ys = ys} {h = h} {i = i} {g = g} more some left few fewer leaves first next = does (λ pc pending others keeps f.
            let rest : List PlainAction = Jump (Skip (length ys)) ∷ ys in
            let one = first.walks (pc + 1) (i ∷ pending) (rest ++ others) (search (arith, leaves)) (split from last xs rest others (stands_as from last ((xs ++ rest) ++ others) (ap (λ n. walk n (n ∷ pending)) left) f.lies.2)) in
            let over = one.on.lies in
            let part = part_same statement i (with_temporaries g more) pending one.after leaves one.kept in
            let kept = keeps_rest statement i pending one.after one.kept in
            let two = next.walks (one.to + 1) (drop 1 one.after) others (search (arith, kept)) (stands_as from last (ys ++ others) (ap (λ n. walk n (drop 1 one.after)) part) over.2) in
            walked from last two.after (search (arith, two.after, two.kept, kept)) two.to (omega (arith, length-append xs rest)) two.on (λ p end.
            let second = two.go (moved 1 refl (moved (length xs) one.size (moved 1 refl p))) end in
            let jump = jumps over.0 over.1 g.temporaries fewer (omega arith) end in
            let begun = one.go (moved 1 refl p) jump.0 in
            let tested = tests f.lies.0 f.lies.1 some left begun.0 more few (omega arith) second.0 in
            (tested.0, step_then tested.1 (step_then begun.1 (step_then jump.1 second.1)))))

        loop_does : {e : Spot} {l : Bool} {zs ts xs : List PlainAction} (entry : Entry) → Does (past (enter_size entry) e) l true base zs base → Does (past (length zs) (past (enter_size entry) e)) l true base ts test
            → Does (body_spot (length zs) (length ts) (past (enter_size entry) e)) true true base xs base → Does e l true base (enter_actions entry (length zs) (length ts) ++ turn_actions zs ts xs) base
        loop_does {zs = zs} {ts = ts} {xs = xs} entry step tried body = does (λ pc pending others keeps f.
            let long : length (enter_actions entry (length zs) (length ts) ++ turn_actions zs ts xs) ≡ enter_size entry + length zs + length ts + length xs + 2 =
            omega (arith, enter_length entry (length zs) (length ts), length-append {A = PlainAction}) in
            let some : 1 ≤ suc slots = omega arith in
            let none : 0 ≤ 0 = omega arith in
            let again : List PlainAction = Jump (Back (suc (length zs + length ts + length xs))) ∷ [] in
            let tail : List PlainAction = JumpZero (Skip (suc (length xs))) ∷ (xs ++ again) in
            let enter = enters entry (length zs) (length ts) keeps (split from last (enter_actions entry (length zs) (length ts)) (turn_actions zs ts xs) others f) in
            let one = step.walks enter.to enter.after ((ts ++ tail) ++ others) enter.kept (split from last zs (ts ++ tail) others enter.on) in
            let two = tried.walks one.to one.after (tail ++ others) one.kept (split from last ts tail others one.on) in
            let out = two.on.lies in
            let less : next_height R (JumpZero (Skip 0)) test ≡ base = search (arith, alike_same) in
            let entering = stands_as from last ((xs ++ again) ++ others) (ap (λ n. walk n (n ∷ two.after)) less) out.2 in
            let three = body.walks (two.to + 1) (base ∷ two.after) (again ++ others) (refl, two.kept) (split from last xs again others entering) in
            let back = three.on.lies in
            let places = turn_places pc (enter_size entry) (length zs) (length ts) (length xs) enter.size one.size two.size three.size in
            walked from last (drop 1 three.after) (keeps_rest true base three.after three.after three.kept) (three.to + 1) (places.0 ∙ ap (λ n. pc + n) (sym long)) (after_jump three.after 0 refl three.kept back.2) (λ p end.
            let begun = moved (enter_size entry) enter.size p in
            let goes_out = opens_goes two.to test (JumpZero (Skip (suc (length xs)))) refl out.0 out.1 in
            let tested = two.go (moved (length zs) one.size begun) goes_out in
            let stepped = one.go begun tested.0 in
            let home = jumps back.0 back.1 0 none places.1 stepped.0 in
            let turn : Turn = record { begin = enter.to; out = two.to } in
            let at : body_spot (length zs) (length ts) (past (enter_size entry) _) ≡ Between (two.to + 1) turn =
            ap (body_spot (length zs) (length ts)) begun.here ∙ ap (λ q. Between (q + 1) (record { begin = enter.to; out = q })) (sym places.3) in
            let run = three.go (record { turn = turn; here = at; ways = λ s. (goes_out, stepped.0); alone = p.alone; leaves = p.leaves }) home.0 in
            let chosen = tests out.0 out.1 some less run.0 0 none places.2 end in
            let entered = enter.go (subst (λ q. Goes given q base) places.4 tested.0, subst (λ q. Goes given q base) places.5 run.0) stepped.0 in
            (entered.0, step_then entered.1 (step_then stepped.1 (step_then tested.1 (step_then chosen.1 (step_then run.1 home.1)))))))

        -- what goes on elsewhere, at the height of a statement or of a test
        away_does : {e : Spot} {l : Bool} {to : Target} (i : Height) → i.temporaries ≡ 0 → ((pc : ℕ) → Placed e l true pc → Goes given (lands pc to) i) → Does e l true i (Jump to ∷ []) base
        away_does i none goes = does (λ pc pending others keeps f.
            walked from last (drop 1 pending) (search arith) (pc + 1) refl (after_jump pending i.temporaries none keeps f.lies.2) (λ p end. jumps f.lies.0 f.lies.1 i.temporaries (omega arith) refl (goes pc p)))

        -- ---- expressions

        module _ (d : ℕ) (room : names ≤ d + s) where
          -- no temporary takes an object in a block
          abbrev TakesNone : Block → Type 0
          TakesNone x = list_any action_takes (plain_actions Inside x) ≡ false

          -- From so many numbers and references, with any temporaries, a block within an expression comes to so many numbers and references, and to no less temporaries; to no more, where none takes an object.
          pub record CameBy (a b c : ℕ) (x : Block) (n m : ℕ) : Type 0 where
            more : ℕ
            most : c ≤ more
            quiet : TakesNone x → more ≤ c
            does : Does Inside false false (height a b c d) (plain_actions Inside x) (height n m more d)

          abbrev pub Comes : (a b : ℕ) → Block → (n m : ℕ) → Type 0
          Comes a b x n m = (c : ℕ) → CameBy a b c x n m

          more_by : {a b n m : ℕ} {x : Block} (k : ℕ) → (TakesNone x → k ≡ 0) → ((c : ℕ) → Types R r s (height a b c d) (plain_actions Inside x) (height n m (c + k) d)) → Comes a b x n m
          more_by {x = x} k quiet t c = record { more = c + k; most = omega arith; quiet = λ none. omega (arith, quiet none); does = typed_does _ (plain_actions Inside x) _ (t c) }

          plain : {a b n m : ℕ} {x : Block} → ((c : ℕ) → Types R r s (height a b c d) (plain_actions Inside x) (height n m c d)) → Comes a b x n m
          plain {x = x} t c = record { more = c; most = omega arith; quiet = λ none. omega arith; does = typed_does _ (plain_actions Inside x) _ (t c) }

          op : {a b n m : ℕ} (o : Op) → ((c : ℕ) → Reaches o (height (a + r) b c (d + s))) → (operation_effect o).variables ≡ 0
              → a - (operation_effect o).numbers_taken + (operation_effect o).numbers_given ≡ n → b - (operation_effect o).names_taken + (operation_effect o).names_given ≡ m → Comes a b (One o) n m
          op {n = n} {m = m} o reaches none numbers references =
              more_by (operation_effect o).temporaries (λ takes. grind arith) (λ c. (reaches c, alike_same _ (height n m _ d) (numbers, references, refl, omega (arith, none))))

          quiet_both : {a b c n m u v k l : ℕ} {x y : Block} (first : CameBy a b c x n m) → (rest : CameBy k l first.more y u v) → (list_any action_takes (plain_actions Inside x) || list_any action_takes (plain_actions Inside y)) ≡ false → rest.more ≤ c
          quiet_both first rest none = let parts = or_parts _ _ none in omega (arith, first.quiet parts.0, rest.quiet parts.1)

          next : {a b n m u v : ℕ} {x y : Block} → Comes a b x n m → Comes n m y u v → Comes a b (Then x y) u v
          next firsts others c =
              let first = firsts c in
              let rest = others first.more in
              record { more = rest.more; most = omega (arith, first.most, rest.most); quiet = λ none. quiet_both first rest (simp list_any-append at none); does = then_does first.does rest.does }

          -- a choice within an expression
          choice : {a b n m : ℕ} {x y : Block} → Comes a b x n m → Comes a b y n m → Comes (suc a) b (Fork x y) n m
          choice firsts others c =
              let first = firsts c in
              let rest = others first.more in
              let does = fork_does first.more (omega arith) (search (arith, alike_same)) first.most rest.most tt first.does rest.does in
              record { more = rest.more; most = omega (arith, first.most, rest.most); quiet = λ none. quiet_both first rest (simp list_any-append at none); does = does }

          ends_with : {a b n m u v : ℕ} {x : Block} → n ≡ u → m ≡ v → Comes a b x n m → Comes a b x u v
          ends_with {a = a} {b = b} {m = m} {u = u} {x = x} e f first = subst (Comes a b x u) f (subst (λ k. Comes a b x k m) e first)

          -- an object that gets a message is a reference below its arguments
          abbrev with_object : Receiver → ℕ → ℕ
          with_object (ObjectValue v) b = suc b
          with_object (ObjectSuper v from) b = suc b
          with_object _ b = b

          message_sent : (g : Gives) (receiver : Receiver) (selector n m a b : ℕ) → Comes (n + below_arguments receiver a) (m + with_object receiver b) (SendsMessage g (message_to receiver selector) n m) (as_number g + a) (as_object g + b)
          message_sent g (ClassValue v) selector n m a b = more_by (as_object g) (search arith) (search (arith, alike_same))
          message_sent g _ selector n m a b = more_by (as_object g) (search arith) (search (arith, alike_same))

          -- a call and a message after its arguments, which want a number or an object
          called : {x : Block} (g : Gives) (f n m a b : ℕ) → Comes a b x (n + a) (m + b) → Comes a b (Then x (Calls g f n m)) (as_number g + a) (as_object g + b)
          called g f n m a b first = next first (more_by (as_object g) (λ none. let takes = simp list_any-append at none in search arith) (λ c. call_types R r s g b c d f n m a))

          sent : {x y : Block} (g : Gives) (receiver : Receiver) (selector n m a b : ℕ) → Comes a b x (below_arguments receiver a) (with_object receiver b) → Comes (below_arguments receiver a) (with_object receiver b) y (n + below_arguments receiver a) (m + with_object receiver b)
              → Comes a b (Then x (Then y (SendsMessage g (message_to receiver selector) n m))) (as_number g + a) (as_object g + b)
          sent g receiver selector n m a b first others = next first (next others (message_sent g receiver selector n m a b))

          made : (a b : ℕ) → Comes (suc a) b Making a (suc b)
          made a b c = record { more = c + 1; most = omega arith; quiet = λ none. cc; does = making_does _ _ (omega arith) (search (arith, alike_same)) }

          -- a message `new` to the class on top, or what the root's `new` does
          new_by : (class : ℕ) (x : Block) (a b : ℕ) → ((c : ℕ) → Types R r s (height (suc a) b c d) (plain_actions Inside x) (height a (suc b) (c + 1) d)) → (TakesNone x → ⊥) → Comes (suc a) b (IfNew class x Making) a (suc b)
          new_by class x a b first takes c =
              let none : TakesNone (IfNew class x Making) → c + 1 ≤ c = λ none. absurd (grind (arith, takes)) in
              let does = by_test (λ t. Does Inside false false (height (suc a) b c d) (if t then plain_actions Inside x else making_actions) (height a (suc b) (c + 1) d))
              (has_new R class) (λ _. typed_does _ (plain_actions Inside x) _ (first c)) (λ _. making_does _ _ (omega arith) (search (arith, alike_same))) in
              record { more = c + 1; most = omega arith; quiet = none; does = does }

          new_types : (from : Option ℕ) (e : Value) (a b : ℕ) → Comes (suc a) b (new_block from e) a (suc b)
          new_types (Some from) e a b = new_by from _ a b (search (arith, alike_same)) (λ none. cc)
          new_types None (Number (pos n)) a b = new_by n _ a b (search (arith, alike_same)) (λ none. cc)
          new_types None _ a b = next {n = suc (suc a)} {m = b} (search (arith, op)) (choice (more_by 1 (λ none. cc) (search (arith, alike_same))) (made a b))

          -- a conversion
          narrow_types : (known kind : Kind) (a b : ℕ) → Comes (suc a) b (narrow_block known kind) (suc a) b
          narrow_types known kind a b = search (arith, by_test, plain, op)

          -- what follows the old number of an update
          update_types : (moment : Moment) (operator : BinaryOperator) (computed kept : Kind) (right store : Block) (a b m : ℕ) → Comes (suc (below_new moment a)) b right (suc (suc (below_new moment a))) b
              → Comes (suc (below_new moment a)) b store (suc (below_new moment a)) m → Comes (suc a) b (update_block moment right operator computed kept store) (suc a) m
          update_types moment operator computed kept right store a b m rights stores =
              let new = suc (below_new moment a) in
              next (search (arith, op, plain)) (next rights (next {n = new} {m = b} (search (arith, op)) (next {n = new} {m = b} (narrow_types (binary_kind operator computed) kept (below_new moment a) b) (next stores (search (arith, op, plain))))))

          lies_below : (moment : Moment) (depth a : ℕ) → depth + slots ≤ a + r → below_new moment depth + slots ≤ below_new moment a + r
          lies_below moment depth a h = search arith

          mutual
            pub value_types : (e : Value) (depth a b : ℕ) → depth + slots ≤ a + r → Comes a b (value_block depth e) (suc a) b
            value_types (Print pieces arguments) depth a b h =
                let n = number_count arguments in
                let m = object_count arguments in
                next (arguments_type arguments depth a b h) (plain (λ t. types_then R r s _ (forget_actions m) (height (n + a) b t d) (print_actions pieces n) _ (forgets_type R r s m _ _ (omega arith)) (print_types R r s pieces n a _ _ refl (omega arith))))
            value_types (Unary operator kind v) depth a b h = next (value_types v depth a b h) (search (arith, op))
            value_types (Binary operator kind v u) depth a b h = next (value_types v depth a b h) (next (value_types u (suc depth) (suc a) b (omega (arith, h))) (search (arith, op)))
            value_types (Conditional v u w) depth a b h = next (value_types v depth a b h) (choice (value_types u depth a b h) (value_types w depth a b h))
            value_types (Convert kind v) depth a b h = next (value_types v depth a b h) (narrow_types (known_kind v) kind a b)
            value_types (Read i) depth a b h = plain (λ c. get_types R r s b c d slots depth i a h)
            value_types (AssignNumber i v) depth a b h = next (value_types v depth a b h) (plain (λ c. set_types R r s b c d slots depth i a h))
            value_types (Update moment i operator computed kept v) depth a b h =
                let new = below_new moment a in
                let lies = lies_below moment depth a h in
                next (plain (λ c. get_types R r s b c d slots depth i a h))
                (update_types moment operator computed kept _ _ a b b (value_types v (suc (below_new moment depth)) (suc new) b (omega (arith, lies))) (plain (λ c. set_types R r s b c d slots (below_new moment depth) i new lies)))
            value_types (Call f arguments) depth a b h = ends_with (omega arith) (omega arith) (called gives.Number f (number_count arguments) (object_count arguments) a b (arguments_type arguments depth a b h))
            value_types (Send receiver selector arguments) depth a b h = ends_with (omega arith) (omega arith) (sent gives.Number receiver selector (number_count arguments) (object_count arguments) a b
                (receiver_types receiver depth a b h) (arguments_type arguments (below_arguments receiver depth) _ _ (search arith)))
            value_types (GetField v class index) depth a b h = next (reference_types v depth a b h) (search (arith, op))
            value_types (SetField v class index u) depth a b h = next (reference_types v depth a b h) (next (value_types u depth a (suc b) h) (search (arith, op)))
            value_types (UpdateField moment v class index operator computed kept u) depth a b h =
                let lies = lies_below moment depth a h in
                next (reference_types v depth a b h) (next {n = a} {m = suc (suc b)} (search (arith, op)) (next {n = suc a} {m = suc b} (search (arith, op))
                (update_types moment operator computed kept _ _ a (suc b) b (value_types u (suc (below_new moment depth)) (suc (below_new moment a)) (suc b) (omega (arith, lies))) (search (arith, op)))))
            value_types (resolved.NotSame v u) depth a b h = next (reference_types v depth a b h) (next (reference_types u depth a (suc b) h) (search (arith, op)))
            value_types (resolved.IsObject v) depth a b h = next (reference_types v depth a b h) (search (arith, op))
            value_types _ depth a b h = search (arith, op)

            pub reference_types : (e : Reference) (depth a b : ℕ) → depth + slots ≤ a + r → Comes a b (reference_block depth e) a (suc b)
            reference_types (Variable i) depth a b h = more_by 1 (search arith) (λ c. read_types R r s names i a b c d room)
            reference_types (ObjectConditional v u w) depth a b h = next (value_types v depth a b h) (choice (reference_types u depth a b h) (reference_types w depth a b h))
            reference_types (AssignObject i v) depth a b h = next (reference_types v depth a b h) (next (plain (λ c. store_types R r s names a (suc b) c d room i (omega arith))) (search (arith, op)))
            reference_types (GetObjectField v class index) depth a b h = next (reference_types v depth a b h) (search (arith, op))
            reference_types (SetObjectField v class index u) depth a b h =
                next (reference_types v depth a b h) (next (reference_types u depth a (suc b) h) (next {n = a} {m = suc b} (plain (search (arith, alike_same))) (search (arith, op))))
            reference_types (resolved.Alloc v) depth a b h = next (value_types v depth a b h) (search (arith, op))
            reference_types (New from v) depth a b h = next (value_types v depth a b h) (new_types from v a b)
            reference_types (ObjectCall f arguments) depth a b h = ends_with (omega arith) (omega arith) (called gives.Object f (number_count arguments) (object_count arguments) a b (arguments_type arguments depth a b h))
            reference_types (ObjectSend receiver selector arguments) depth a b h = ends_with (omega arith) (omega arith) (sent gives.Object receiver selector (number_count arguments) (object_count arguments) a b
                (receiver_types receiver depth a b h) (arguments_type arguments (below_arguments receiver depth) _ _ (search arith)))
            reference_types _ depth a b h = search (arith, op)

            -- what gets a message is one operand more, or one reference more
            receiver_types : (e : Receiver) (depth a b : ℕ) → depth + slots ≤ a + r → Comes a b (receiver_block depth e) (below_arguments e a) (with_object e b)
            receiver_types (ClassValue v) depth a b h = value_types v depth a b h
            receiver_types (ClassSuper from) depth a b h = plain (λ c. get_types R r s b c d slots depth (Local 0) a h)
            receiver_types (ObjectValue v) depth a b h = reference_types v depth a b h
            receiver_types (ObjectSuper v from) depth a b h = reference_types v depth a b h

            arguments_type : (es : Arguments) (depth a b : ℕ) → depth + slots ≤ a + r → Comes a b (arguments_block depth es) (number_count es + a) (object_count es + b)
            arguments_type no_arguments depth a b h = plain (search (arith, alike_same))
            arguments_type (number_argument v others) depth a b h =
                ends_with {n = number_count others + suc a} {m = object_count others + b} (omega arith) refl (next (value_types v depth a b h) (arguments_type others (suc depth) (suc a) b (omega (arith, h))))
            arguments_type (object_argument v others) depth a b h =
                ends_with {n = number_count others + a} {m = object_count others + suc b} refl (omega arith) (next (reference_types v depth a b h) (arguments_type others depth a (suc b) h))

          -- ---- full-expressions, which end without temporaries

          full : {e : Spot} {l statement : Bool} {a n m u : ℕ} (x y : Block) → Comes a 0 x n m → ((t : ℕ) → Types R r s (height n m t d) (plain_actions Inside y) (height u 0 t d))
              → Does e l statement (height a 0 0 d) (plain_actions e (FullExpression x y)) (height u 0 0 d)
          full {u = u} x y firsts others =
              let first = firsts 0 in
              let none : TakesNone x → first.more ≡ 0 = λ e. let le = first.quiet e in omega arith in
              inside_does (then_does first.does (then_does (typed_does _ (plain_actions Inside y) _ (others first.more)) (typed_does _ (drop_actions (plain_actions Inside x)) _ (search (arith, none)))))

          full_expression_does : {e : Spot} {l statement : Bool} (v : Value) (a : ℕ) → slots ≤ a + r → Does e l statement (height a 0 0 d) (plain_actions e (full_expression_block v)) (height (suc a) 0 0 d)
          full_expression_does v a h = full (value_block 0 v) Idle (value_types v 0 a 0 (omega (arith, h))) (λ t. refl)

          full_object_expression_does : {e : Spot} {l statement : Bool} (v : Reference) (a : ℕ) → slots ≤ a + r → Does e l statement (height a 0 0 d) (plain_actions e (full_object_expression_block v)) (height a 0 0 d)
          full_object_expression_does v a h = full (reference_block 0 v) (One Forget) (reference_types v 0 a 0 (omega (arith, h))) (λ t. search (arith, alike_same))

        -- ---- statements, where nothing more lies below

        module _ (none : r ≡ 0) (no : s ≡ 0) where
          room : names ≤ names + s
          room = omega arith

          abbrev Statement : (looping : Bool) → Block → Type 0
          Statement l x = (e : Spot) → Does e l true base (plain_actions e x) base

          test_does : {e : Spot} {l : Bool} (v : Value) → Does e l true base (plain_actions e (full_expression_block v)) test
          test_does v = full_expression_does names room v slots (omega arith)

          nothing_does : (l : Bool) → Statement l (nothing_given exit)
          nothing_does l e = then_does (typed_does base (Plain (Num (pos 0)) ∷ []) test (search (arith, alike_same))) (away_does test refl (λ pc p. p.leaves))

          clear_does : {e : Spot} {l : Bool} (first count : ℕ) → Does e l true base (all_empty_actions names first count) base
          clear_does first count = typed_does base (all_empty_actions names first count) base (all_empty_type R r s names slots 0 0 names room first count)

          quit_does : Statement true Quit
          quit_does e = then_does (typed_does base (Plain (Num (pos 0)) ∷ []) test (search (arith, alike_same)))
              (away_does test refl (λ pc p. let same : p.turn ≡ turn_at e = search (arith, p.here) in subst (λ (turn : Turn). Goes given turn.out test) same (p.ways refl).0))

          advance_does : Statement true Advance
          advance_does e = away_does base refl (λ pc p. subst (λ (turn : Turn). Goes given turn.begin base) (sym (ap turn_at p.here)) (p.ways refl).1)

          -- an object goes to a variable
          stored_does : {e : Spot} {l : Bool} (v : Reference) (i : Location) → Does e l true base (plain_actions e (FullExpression (reference_block 0 v) (Then (Assign i) (One Forget)))) base
          stored_does v i = full names room (reference_block 0 v) (Then (Assign i) (One Forget)) (reference_types names room v 0 slots 0 (omega (arith, none)))
              (λ t. types_then R r s _ (store_actions names i) (height slots 1 t names) (Plain Forget ∷ []) _ (store_types R r s names slots 1 t names room i (omega arith)) (search (arith, alike_same)))

          mutual
            command_does : (l : Bool) (breaks continues : Block) → Statement l breaks → Statement l continues → (c : Command) → Statement l (command_block exit breaks continues c)
            command_does l b n t u (Sequence first count all) e =
                then_does (commands_does l (Then (Clear first count) b) (Then (Clear first count) n) (λ e. then_does (clear_does first count) (t _)) (λ e. then_does (clear_does first count) (u _)) all e) (clear_does first count)
            command_does l b n t u (Evaluate v) e = then_does (test_does (unused v)) (typed_does test (Plain Pop ∷ []) base (search (arith, alike_same)))
            command_does l b n t u (EvaluateReference v) e = full_object_expression_does names room v slots (omega arith)
            command_does l b n t u (InitVariable i v) e = stored_does v (Local i)
            command_does l b n t u (resolved.Give v) e = then_does (stored_does v (Local (names - 1))) (nothing_does l _)
            command_does l b n t u (resolved.Return None) e = nothing_does l e
            command_does l b n t u (resolved.Return (Some v)) e = then_does (test_does v) (away_does test refl (λ pc p. p.leaves))
            command_does l b n t u (If v x y) e = then_does (test_does v) (fork_does 0 (omega arith) (search (arith, alike_same)) (omega arith) (omega arith) refl (command_does l b n t u x _) (command_does l b n t u y _))
            command_does l b n t u (While moment v step body) e =
                let stepped = by_test (λ b1. Statement l (if b1 then Idle else command_block exit b n step)) (does_nothing step) (λ _ e. typed_does base [] base refl) (λ _. command_does l b n t u step) in
                loop_does (entry moment (does_nothing step)) (stepped _) (test_does v) (command_does true Quit Advance quit_does advance_does body _)
            command_does l b n t u Break e = t e
            command_does l b n t u Continue e = u e

            commands_does : (l : Bool) (breaks continues : Block) → Statement l breaks → Statement l continues → (cs : Commands) → Statement l (commands_block exit breaks continues cs)
            commands_does l b n t u no_commands e = typed_does base [] base refl
            commands_does l b n t u (and_command c others) e = then_does (command_does l b n t u c e) (commands_does l b n t u others _)

          -- the statements of a function
          pub body_does : (cs : Commands) → Statement false (commands_block exit (nothing_given exit) (nothing_given exit) cs)
          body_does cs = commands_does false (nothing_given exit) (nothing_given exit) (nothing_does false) (nothing_does false) cs

          -- what leaves a statement
          scopes_does : (l : Bool) (scopes : List Scope) (b : Block) → Statement l b → Statement l (within_scopes scopes b)
          scopes_does l [] b t e = t e
          scopes_does l (scope ∷ others) b t e = then_does (clear_does scope.first scope.count) (scopes_does l others b t _)

          leaving_does : (turn : Option Turn) (b : Block) → Statement true b → Statement (is_some turn) (leaving exit turn b)
          leaving_does None b t = nothing_does false
          leaving_does (Some turn) b t = t

          -- a statement where it stands
          placed_does : (turn : Option Turn) (scopes : List Scope) (c : Command) →
              Statement (is_some turn) (command_block exit (within_scopes scopes (leaving exit turn Quit)) (within_scopes scopes (leaving exit turn Advance)) c)
          placed_does turn scopes =
              command_does (is_some turn) _ _ (scopes_does _ scopes _ (leaving_does turn Quit quit_does)) (scopes_does _ scopes _ (leaving_does turn Advance advance_does))

-- ---- where a walk over the actions of a block ends

pub part_all : {A : Type 0} (whole : List A) → Part whole 0 whole
part_all whole = each_from _ 0 whole (λ i x e. subst (λ n. slice_get whole n ≡ Some x) (omega arith) e)

module _ (P : resolved.Program) (base : Height) (h : Height) (pending : List Height) (xs : List PlainAction) where
  abbrev marks : List (Height × Gives)
  marks = in_function gives.Number (walk_heights P base (walk h pending) xs)

  abbrev EndsAs : ℕ → Walk → Type 0
  EndsAs q v = last_walk P base (walk h pending) xs ≡ v

  -- these actions alone
  stand : Row P xs marks gives.Number base EndsAs 0 (walk h pending) (xs ++ [])
  stand = subst (Row P xs marks gives.Number base EndsAs 0 (walk h pending)) (sym (append-nil xs)) (record { lies = lies_of P xs marks gives.Number base EndsAs 0 (walk h pending) xs (part_all marks) (part_all xs) refl })

  expression_ends : (r s slots names : ℕ) (g : Height) → Does P xs marks gives.Number r s slots names 0 base EndsAs Inside false false h xs g → last_walk P base (walk h pending) xs ≡ walk g pending
  expression_ends r s slots names g does = let walks = does.walks 0 pending [] refl stand in walks.on.lies ∙ ap (walk g) (sym walks.kept)

module _ (P : Program) (base : Height) (pending : List Height) (slots names : ℕ) where
  pub full_expression_ends : (e : Value) (a b : ℕ) → last_walk P base (walk (between a b) pending) (full_expression_actions P slots names e) ≡ walk (between (suc a) b) pending
  full_expression_ends e a b = expression_ends P base _ pending (full_expression_actions P slots names e) slots names slots names _ (full_expression_does P _ _ gives.Number slots names slots names 0 base _ b (omega arith) e a (omega arith))

  pub full_object_expression_ends : (e : Reference) (a b : ℕ) → last_walk P base (walk (between a b) pending) (full_object_expression_actions P slots names e) ≡ walk (between a b) pending
  full_object_expression_ends e a b = expression_ends P base _ pending (full_object_expression_actions P slots names e) slots names slots names _ (full_object_expression_does P _ _ gives.Number slots names slots names 0 base _ b (omega arith) e a (omega arith))

pub statement_ends : (P : Program) (slots names here : ℕ) (s : Surroundings) (c : Command) → last_height P (between slots names) (between slots names) (command_actions P slots names here s c) ≡ between slots names
statement_ends P slots names here s c =
    let base = between slots names in
    let xs = command_actions P slots names here s c in
    ap (λ (w : Walk). w.height) ((placed_does P xs (marks P base base [] xs) gives.Number 0 0 slots names s.exit base (EndsAs P base base [] xs) refl refl s.turn s.scopes c (spot here s.turn)).walks 0 [] [] refl (stand P base base [] xs)).on.lies
