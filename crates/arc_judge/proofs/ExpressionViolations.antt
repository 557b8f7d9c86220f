-- The first violation in an expression, by those in its parts.
use Rattle.std.proofs.Common.{◌≡◌, ℕ, ◌+◌, ◌<◌, Bool, true, false, ◌&&◌, ◌++◌, List, [], ◌∷◌, length, cond, not, get_or, drop, Vec, Box, Global, Option, Some, None, option_map, is_some, is_none, slice_get, refl, sym, ap, ◌∙◌, if◌then◌else◌}
use Rattle.arc_ast.specs.declared.tree.Kind.{Kind}
use Rattle.arc_ast.specs.declared.tree.Kind.TheVariants as kinds_of
use Rattle.arc_ast.specs.declared.tree.Expr as ast
use Rattle.arc_ast.specs.declared.tree.Expr.{Expr}
use Rattle.arc_ast.specs.declared.tree.Moment.{Moment}
use Rattle.arc_ast.specs.declared.tree.UnaryOperator.{UnaryOperator}
use Rattle.arc_ast.specs.declared.tree.BinaryOperator.{BinaryOperator}
use Rattle.arc_ast.specs.declared.tree.OperatorSort.TheVariants.{Equality}
use Rattle.arc_ast.specs.Operators.{sort_of}
use Rattle.arc_ast.specs.Tree.{ExprTree, ExprTrees, Arrow, Assign, Update, Binary, Cast, Conditional, Itself, Send, Unary, SendSuper, TypeTree, expr_tree, expr_trees, place}
use Rattle.arc_ast.specs.Types.{type_kind}
use Rattle.arc_class.specs.BrokenRules.{broken_if, Broken, first, earlier_of}
use Rattle.arc_class.specs.Table.{number_of_class}
use Rattle.arc_class.specs.declared.table.ClassId.{ClassId}
use Rattle.arc_class.proofs.FirstBrokenRule.{first_turn, first_both, first-append}
use Rattle.arc_scope.specs.declared.callee.Callee.{Callee}
use Rattle.arc_scope.specs.declared.callee.Callee.TheVariants.{Printf, GetChar, Defined, Unknown}
use Rattle.arc_fault.specs.declared.check.CheckFault.{CheckFault}
use Rattle.arc_scope.specs.declared.format.Part.{Part}
use Rattle.arc_judge.specs.declared.judge.Arguments.{Arguments}
use Rattle.arc_judge.specs.declared.judge.Judged.{Judged}
use Rattle.arc_judge.specs.declared.taken.Taken.{Taken}
use Rattle.arc_judge.specs.Fault.{reported}
use Rattle.arc_scope.specs.Formats.{fits}
use Rattle.arc_judge.specs.private.ExpressionJudgements.{Judges, JudgesCall, JudgesWhole, broken_at, broken_field, counted, none_counted, other_rule}
use Rattle.arc_judge.specs.Rules.{all_taken, arrow_kind, place_if, binary_kind, broken, broken_arguments, call_rule, either_kind, is_assignable, is_updatable, kind_if, kind_of, kinds, message_kind, no_method, no_right, no_such, taken, unread, unary_kind, unmet}
use Rattle.arc_scope.specs.Kinds.{is_object}
use Rattle.arc_scope.specs.ParameterKinds.{first_wanted, wanted_by, receiver_sign}
use Rattle.arc_scope.specs.Scopes.{Scope, callee, class_of, class_receiver, either_class, field_class, is_nil, is_printf, own_class, result_kind, static_class}
use Rattle.arc_scope.specs.Views.{sent_class, super_class, super_kind}
use Rattle.arc_judge.proofs.TakenObjectCounts.{counted_both, past_is}
use Rattle.arc_scope.proofs.ListSuffixes.{drop_turn}
use Rattle.arc_ast.proofs.Trees.{call_tree, send_tree, send_super_tree}
use Rattle.arc_judge.specs.Rules.{ANumber, AValue, AnObject, left_need, operand_need}
use Rattle.arc_sites.specs.Violations.{violates}
use Rattle.arc_judge.specs.declared.taken.TheConstants.{MOST_TAKEN}

-- what is reported of an expression, and then one rule more of its kind
pub with_rule : (s : Scope) (all : List Broken) (a : ExprTree) (rule : Option Kind → ℕ → List Broken) (fault new : Option Broken) (kind : Option Kind) (at : ℕ) → fault ≡ first all → kind ≡ kind_of s a → at ≡ place a
    → new ≡ earlier_of fault (first (rule kind at)) → new ≡ first (all ++ rule (kind_of s a) (place a))
with_rule s all a rule fault new kind at f k p n =
    n ∙ ap (λ o. earlier_of o (first (rule kind at))) f ∙ ap (λ o. earlier_of (first all) (first (rule o at))) k ∙ ap (λ i. earlier_of (first all) (first (rule (kind_of s a) i))) p ∙ sym (first-append all (rule (kind_of s a) (place a)))

-- what is reported of a full-expression
pub judges_whole : (s : Scope) (a : ExprTree) (judged new : Judged) (past : Option Broken) → Judges s none_counted a judged → new.kind ≡ judged.kind → past ≡ first (violates 50 judged.taken.past)
    → option_map reported new.fault ≡ earlier_of (option_map reported judged.fault) past → JudgesWhole s a new
judges_whole s a judged new past j k p f =
    let over = violates 50 (slice_get (taken s a) MOST_TAKEN) in
    record {
      kind = k ∙ j.kind;
      fault = first_both (broken s a) over (option_map reported judged.fault) past (option_map reported new.fault) j.fault
          (p ∙ ap (λ t. first (violates 50 t.past)) j.taken ∙ ap (λ o. first (violates 50 o)) (past_is MOST_TAKEN (taken s a))) f;
    }

-- what is no left side isn't asked for how many objects are taken where it is assigned to
pub never : {A : Type 0} → false ≡ true → A
never e = absurd (cc)

pub judges_call : (s : Scope) (before : Taken) (a : Expr) (at : ℕ) (name : Vec ℕ Global) (arguments : Vec Expr Global) (bytes : List ℕ) (all : List Expr) (judged : Judged) → a ≡ ast.Call at name arguments
    → bytes ≡ name.items → all ≡ arguments.items → JudgesCall s before at (callee s.known bytes) (s.known.function_class bytes) (s.known.parameters bytes) (expr_trees all) judged → Judges s before (expr_tree a) judged
judges_call s before a at name arguments bytes all judged e n m h =
    rw (e, call_tree at name arguments, sym n, sym m) (record { kind = h.kind; class = h.class; fault = h.fault; taken = h.taken; unread = never })

pub judges_send : (s : Scope) (before : Taken) (a : Expr) (at part : ℕ) (receiver : Box Expr Global) (r : Expr) (selector : Vec ℕ Global) (arguments : Vec Expr Global) (bytes : List ℕ) (all : List Expr) (judged : Judged) → a ≡ ast.Send at part receiver selector arguments
    → r ≡ receiver.value → bytes ≡ selector.items → all ≡ arguments.items → ((at : ℕ) → Judges s before (Send at part (expr_tree r) bytes (expr_trees all)) judged) → Judges s before (expr_tree a) judged
judges_send s before a at part receiver r selector arguments bytes all judged e q n m h = rw (e, send_tree at part receiver selector arguments, sym q, sym n, sym m) (h at)

pub judges_super : (s : Scope) (before : Taken) (a : Expr) (at part super_at : ℕ) (selector : Vec ℕ Global) (arguments : Vec Expr Global) (bytes : List ℕ) (all : List Expr) (judged : Judged) → a ≡ ast.SendSuper at part super_at selector arguments
    → bytes ≡ selector.items → all ≡ arguments.items → ((at : ℕ) → Judges s before (SendSuper at part super_at bytes (expr_trees all)) judged) → Judges s before (expr_tree a) judged
judges_super s before a at part super_at selector arguments bytes all judged e n m h = rw (e, send_super_tree at part super_at selector arguments, sym n, sym m) (h at)

-- ---- `self`

abbrev broken_rule : ℕ → ℕ → Broken
broken_rule at number = record { at = at; number = number }

pub is_some-class : (o : Option ClassId) → is_some (option_map number_of_class o) ≡ is_some o
is_some-class None = refl
is_some-class (Some class) = refl

pub is_none-class : (o : Option ClassId) (none : Bool) → is_some o ≡ not none → none ≡ is_none (option_map number_of_class o)
is_none-class None true e = refl
is_none-class None false e = absurd (cc)
is_none-class (Some class) true e = absurd (cc)
is_none-class (Some class) false e = refl

none_of : (o : Option ℕ) → is_some o ≡ false → o ≡ None
none_of None e = refl
none_of (Some n) e = absurd (cc)

pub itself_object : (s : Scope) (before : Taken) (at : ℕ) (judged : Judged) → is_some (own_class s) ≡ true → judged.kind ≡ Some kinds_of.Object → option_map number_of_class judged.class ≡ own_class s → option_map reported judged.fault ≡ None → judged.taken ≡ counted before (at ∷ [])
    → judged.unread ≡ before → Judges s before (Itself at) judged
itself_object s before at judged e n c f t u = record {
  kind = n ∙ sym (ap (λ b. kind_if b kinds_of.Object) e);
  class = c;
  fault = f ∙ sym (ap (λ b. first (cond b [] (broken_rule at (cond (is_some s.class) 43 41) ∷ []))) e);
  taken = t ∙ sym (ap (λ b. counted before (place_if b at)) e);
  unread = λ _. u;
}

pub itself_refused : (s : Scope) (before : Taken) (at : ℕ) (judged : Judged) (number : ℕ) → is_some (own_class s) ≡ false → cond (is_some s.class) 43 41 ≡ number → judged.kind ≡ None → judged.class ≡ None → option_map reported judged.fault ≡ Some (broken_rule at number)
    → judged.taken ≡ before → judged.unread ≡ before → Judges s before (Itself at) judged
itself_refused s before at judged number e m n c f t u = record {
  kind = n ∙ sym (ap (λ b. kind_if b kinds_of.Object) e);
  class = ap (option_map number_of_class) c ∙ sym (none_of (own_class s) e);
  fault = f ∙ sym (ap (λ i. Some (broken_rule at i)) m) ∙ sym (ap (λ b. first (cond b [] (broken_rule at (cond (is_some s.class) 43 41) ∷ []))) e);
  taken = t ∙ sym (ap (λ b. counted before (place_if b at)) e);
  unread = λ _. u;
}

-- ---- operators, casts and fields

pub judges_unary : (s : Scope) (before : Taken) (at : ℕ) (operator : UnaryOperator) (a : ExprTree) (judged new : Judged) (here : ℕ) → Judges s before a judged → here ≡ place a → new.kind ≡ unary_kind operator judged.kind → new.class ≡ None
    → option_map reported new.fault ≡ earlier_of (option_map reported judged.fault) (first (unmet (operand_need operator) judged.kind here)) → new.taken ≡ judged.taken → Judges s before (Unary at operator a) new
judges_unary s before at operator a judged new here j p k c f t = record {
  kind = k ∙ ap (unary_kind operator) j.kind;
  class = ap (option_map number_of_class) c;
  fault = with_rule s (broken s a) a (unmet (operand_need operator)) (option_map reported judged.fault) (option_map reported new.fault) judged.kind here j.fault j.kind p f;
  taken = t ∙ j.taken;
  unread = never;
}

pub judges_cast : (s : Scope) (before : Taken) (at : ℕ) (type : TypeTree) (a : ExprTree) (judged new : Judged) (here : ℕ) → Judges s before a judged → here ≡ place a → new.kind ≡ kind_of s (Cast at type a)
    → option_map number_of_class new.class ≡ static_class s.known type → option_map reported new.fault ≡ earlier_of (option_map reported judged.fault) (first (no_such (Some (type_kind type)) judged.kind here)) → new.taken ≡ judged.taken → Judges s before (Cast at type a) new
judges_cast s before at type a judged new here j p k c f t = record {
  kind = k;
  class = c;
  fault = with_rule s (broken s a) a (no_such (Some (type_kind type))) (option_map reported judged.fault) (option_map reported new.fault) judged.kind here j.fault j.kind p f;
  taken = t ∙ j.taken;
  unread = never;
}

pub judges_arrow : (s : Scope) (before : Taken) (at name_at : ℕ) (a : ExprTree) (name : List ℕ) (judged new : Judged) (here : ℕ) (found : _) → Judges s before a judged → here ≡ place a → found ≡ s.known.field (option_map number_of_class judged.class) name
    → new.kind ≡ arrow_kind s judged.kind found → option_map number_of_class new.class ≡ field_class found
    → option_map reported new.fault ≡ earlier_of (earlier_of (option_map reported judged.fault) (first (unmet AnObject judged.kind here))) (first (broken_field s judged.kind found name_at))
    → new.taken ≡ counted judged.taken (place_if (is_object (arrow_kind s judged.kind found)) name_at) → new.unread ≡ judged.taken → Judges s before (Arrow at name_at a name) new
judges_arrow s before at name_at a name judged new here found j p w k c f t u =
    let is = w ∙ ap (λ o. s.known.field o name) j.class in
    let own = s.known.field (class_of s a) name in
    let reads = place_if (is_object (arrow_kind s (kind_of s a) own)) name_at in
    let same : arrow_kind s judged.kind found ≡ arrow_kind s (kind_of s a) own = ap (λ o. arrow_kind s o found) j.kind ∙ ap (arrow_kind s (kind_of s a)) is in
    record {
      kind = k ∙ same;
      class = c ∙ ap field_class is;
      fault = first_both (broken s a ++ unmet AnObject (kind_of s a) (place a)) (broken_field s (kind_of s a) own name_at) (earlier_of (option_map reported judged.fault) (first (unmet AnObject judged.kind here))) (first (broken_field s judged.kind found name_at)) (option_map reported new.fault)
          (with_rule s (broken s a) a (unmet AnObject) (option_map reported judged.fault) _ judged.kind here j.fault j.kind p refl)
          (ap (λ o. first (broken_field s o found name_at)) j.kind ∙ ap (λ o. first (broken_field s (kind_of s a) o name_at)) is) f;
      taken = counted_both before judged.taken new.taken (taken s a) reads j.taken (t ∙ ap (λ o. counted judged.taken (place_if (is_object o) name_at)) same);
      unread = λ _. u ∙ j.taken;
    }

pub judges_choice : (s : Scope) (before : Taken) (at : ℕ) (c a b : ExprTree) (test one other new : Judged) (test_at one_at other_at : ℕ) → Judges s before c test → Judges s test.taken a one → Judges s one.taken b other → test_at ≡ place c → one_at ≡ place a → other_at ≡ place b
    → new.kind ≡ either_kind one.kind other.kind → option_map number_of_class new.class ≡ either_class (is_nil a) (is_nil b) (option_map number_of_class one.class) (option_map number_of_class other.class)
    → option_map reported new.fault ≡ earlier_of (earlier_of (option_map reported test.fault) (first (unmet AValue test.kind test_at))) (earlier_of (earlier_of (option_map reported one.fault) (first (unmet AValue one.kind one_at))) (earlier_of (option_map reported other.fault) (first (no_right Equality one.kind other.kind other_at))))
    → new.taken ≡ other.taken → Judges s before (Conditional at c a b) new
judges_choice s before at c a b test one other new test_at one_at other_at x y z p q r k n f t =
    let by_test = earlier_of (option_map reported test.fault) (first (unmet AValue test.kind test_at)) in
    let by_one = earlier_of (option_map reported one.fault) (first (unmet AValue one.kind one_at)) in
    let by_other = earlier_of (option_map reported other.fault) (first (no_right Equality one.kind other.kind other_at)) in
    let broken_a = broken s a ++ unmet AValue (kind_of s a) (place a) in
    let broken_b = broken s b ++ no_right Equality (kind_of s a) (kind_of s b) (place b) in
    record {
      kind = k ∙ ap (λ o. either_kind o other.kind) y.kind ∙ ap (either_kind (kind_of s a)) z.kind;
      class = n ∙ ap (λ o. either_class (is_nil a) (is_nil b) o (option_map number_of_class other.class)) y.class ∙ ap (either_class (is_nil a) (is_nil b) (class_of s a)) z.class;
      fault = first_both (broken s c ++ unmet AValue (kind_of s c) (place c)) (broken_a ++ broken_b) by_test (earlier_of by_one by_other) (option_map reported new.fault)
          (with_rule s (broken s c) c (unmet AValue) (option_map reported test.fault) by_test test.kind test_at x.fault x.kind p refl)
          (first_both broken_a broken_b by_one by_other _ (with_rule s (broken s a) a (unmet AValue) (option_map reported one.fault) by_one one.kind one_at y.fault y.kind q refl)
          (with_rule s (broken s b) b (no_right Equality (kind_of s a)) (option_map reported other.fault) by_other other.kind other_at z.fault z.kind r (ap (λ o. earlier_of (option_map reported other.fault) (first (no_right Equality o other.kind other_at))) y.kind)) refl) f;
      taken = t ∙ counted_both before test.taken other.taken (taken s c) (taken s a ++ taken s b) x.taken (counted_both test.taken one.taken other.taken (taken s a) (taken s b) y.taken z.taken);
      unread = never;
    }

pub judges_binary : (s : Scope) (before : Taken) (at : ℕ) (operator : BinaryOperator) (a b : ExprTree) (left right both : Judged) (left_at right_at : ℕ) → Judges s before a left → Judges s left.taken b right → left_at ≡ place a → right_at ≡ place b → both.kind ≡ binary_kind (sort_of operator) left.kind right.kind → both.class ≡ None
    → option_map reported both.fault ≡ earlier_of (earlier_of (option_map reported left.fault) (first (unmet (left_need (sort_of operator)) left.kind left_at))) (earlier_of (option_map reported right.fault) (first (no_right (sort_of operator) left.kind right.kind right_at))) → both.taken ≡ right.taken
    → Judges s before (Binary at operator a b) both
judges_binary s before at operator a b left right both left_at right_at l r p q k c f t =
    let one = earlier_of (option_map reported left.fault) (first (unmet (left_need (sort_of operator)) left.kind left_at)) in
    let two = earlier_of (option_map reported right.fault) (first (no_right (sort_of operator) left.kind right.kind right_at)) in
    record {
      kind = k ∙ ap (λ o. binary_kind (sort_of operator) o right.kind) l.kind ∙ ap (binary_kind (sort_of operator) (kind_of s a)) r.kind;
      class = ap (option_map number_of_class) c;
      fault = first_both (broken s a ++ unmet (left_need (sort_of operator)) (kind_of s a) (place a)) (broken s b ++ no_right (sort_of operator) (kind_of s a) (kind_of s b) (place b)) one two (option_map reported both.fault)
          (with_rule s (broken s a) a (unmet (left_need (sort_of operator))) (option_map reported left.fault) one left.kind left_at l.fault l.kind p refl)
          (with_rule s (broken s b) b (no_right (sort_of operator) (kind_of s a)) (option_map reported right.fault) two right.kind right_at r.fault r.kind q (ap (λ o. earlier_of (option_map reported right.fault) (first (no_right (sort_of operator) o right.kind right_at))) l.kind)) f;
      taken = t ∙ counted_both before left.taken right.taken (taken s a) (taken s b) l.taken r.taken;
      unread = never;
    }

-- ---- assignments

-- what the left side takes, which is read, or assigned to
taken_left : (assignable : Bool) (before read aside : Taken) (all others : List ℕ) → read ≡ counted before all → (assignable ≡ true → aside ≡ counted before others) → cond assignable aside read ≡ counted before (cond assignable others all)
taken_left true before read aside all others r a = a refl
taken_left false before read aside all others r a = r

pub judges_assign : (s : Scope) (before between : Taken) (at sign : ℕ) (a b : ExprTree) (assignable : Bool) (left right both : Judged) (right_at : ℕ) → Judges s before a left → between ≡ counted (cond assignable left.unread left.taken) (place_if (is_object left.kind) sign)
    → Judges s between b right → assignable ≡ is_assignable a → right_at ≡ place b → both.kind ≡ cond assignable left.kind None → both.class ≡ left.class
    → option_map reported both.fault ≡ earlier_of (earlier_of (option_map reported left.fault) (first (broken_if (not assignable) sign 44))) (earlier_of (option_map reported right.fault) (first (no_such left.kind right.kind right_at))) → both.taken ≡ right.taken
    → Judges s before (Assign at sign a b) both
judges_assign s before between at sign a b assignable left right both right_at l g r v p k c f t =
    let own = broken_if (not (is_assignable a)) sign 44 in
    let two = earlier_of (option_map reported right.fault) (first (no_such left.kind right.kind right_at)) in
    let reads = cond (is_assignable a) (unread s a) (taken s a) in
    let read = cond (is_assignable a) left.unread left.taken in
    let sets = place_if (is_object (kind_of s a)) sign in
    record {
      kind = k ∙ ap (λ o. cond assignable o None) l.kind ∙ ap (λ p. cond p (kind_of s a) None) v;
      class = ap (option_map number_of_class) c ∙ l.class;
      fault = first_both (broken s a ++ own) (broken s b ++ no_such (kind_of s a) (kind_of s b) (place b)) (earlier_of (option_map reported left.fault) (first (broken_if (not assignable) sign 44))) two (option_map reported both.fault)
          (first_both (broken s a) own (option_map reported left.fault) (first (broken_if (not assignable) sign 44)) _ l.fault (ap (λ p. first (broken_if (not p) sign 44)) v) refl)
          (with_rule s (broken s b) b (no_such (kind_of s a)) (option_map reported right.fault) two right.kind right_at r.fault r.kind p (ap (λ o. earlier_of (option_map reported right.fault) (first (no_such o right.kind right_at))) l.kind)) f;
      taken = t ∙ counted_both before between right.taken (reads ++ sets) (taken s b)
          (counted_both before read between reads sets (taken_left (is_assignable a) before left.taken left.unread (taken s a) (unread s a) l.taken l.unread)
          (g ∙ ap (λ p. counted (cond p left.unread left.taken) (place_if (is_object left.kind) sign)) v ∙ ap (λ o. counted read (place_if (is_object o) sign)) l.kind)) r.taken;
      unread = never;
    }

pub judges_update : (s : Scope) (before : Taken) (at sign : ℕ) (moment : Moment) (operator : BinaryOperator) (a b : ExprTree) (updatable : Bool) (left right both : Judged) (right_at : ℕ) → Judges s before a left → Judges s left.taken b right → updatable ≡ is_updatable s a left.kind → right_at ≡ place b
    → both.kind ≡ cond updatable left.kind None → both.class ≡ None
    → option_map reported both.fault ≡ earlier_of (earlier_of (option_map reported left.fault) (first (broken_if (not updatable) sign 44))) (earlier_of (option_map reported right.fault) (first (unmet ANumber right.kind right_at))) → both.taken ≡ right.taken
    → Judges s before (Update at sign moment operator a b) both
judges_update s before at sign moment operator a b updatable left right both right_at l r v p k c f t =
    let is = v ∙ ap (is_updatable s a) l.kind in
    let own = broken_if (not (is_updatable s a (kind_of s a))) sign 44 in
    let two = earlier_of (option_map reported right.fault) (first (unmet ANumber right.kind right_at)) in
    record {
      kind = k ∙ ap (λ o. cond updatable o None) l.kind ∙ ap (λ p. cond p (kind_of s a) None) is;
      class = ap (option_map number_of_class) c;
      fault = first_both (broken s a ++ own) (broken s b ++ unmet ANumber (kind_of s b) (place b)) (earlier_of (option_map reported left.fault) (first (broken_if (not updatable) sign 44))) two (option_map reported both.fault)
          (first_both (broken s a) own (option_map reported left.fault) (first (broken_if (not updatable) sign 44)) _ l.fault (ap (λ p. first (broken_if (not p) sign 44)) is) refl)
          (with_rule s (broken s b) b (unmet ANumber) (option_map reported right.fault) two right.kind right_at r.fault r.kind p refl) f;
      taken = t ∙ counted_both before left.taken right.taken (taken s a) (taken s b) l.taken r.taken;
      unread = never;
    }

-- ---- messages

unless_class : (some : Bool) (own : List Broken) (fault : Option Broken) → fault ≡ first own → cond some None fault ≡ first (if some then [] else own)
unless_class true own fault e = refl
unless_class false own fault e = e

pub judges_message : (s : Scope) (before between : Taken) (at part : ℕ) (r : ExprTree) (selector : List ℕ) (arguments : ExprTrees) (class : Option ℕ) (judged new : Judged) (passed : Arguments) (here : ℕ) (own unknown : Option Broken) → class ≡ class_receiver s r → Judges s before r judged → here ≡ place r
    → new.kind ≡ message_kind s class judged.kind (option_map number_of_class judged.class) selector → own ≡ cond (is_some class) None (earlier_of (option_map reported judged.fault) (first (unmet AnObject judged.kind here)))
    → unknown ≡ first (no_method s class judged.kind (option_map number_of_class judged.class) selector part) → between ≡ counted judged.taken (place_if (is_object new.kind) part)
    → option_map reported passed.fault ≡ first (broken_arguments s (Some (s.known.passed (receiver_sign class) selector)) false arguments) → passed.taken ≡ counted between (all_taken s arguments) → option_map number_of_class new.class ≡ sent_class s.known class (option_map number_of_class judged.class) selector
    → option_map reported new.fault ≡ earlier_of (earlier_of own unknown) (option_map reported passed.fault) → new.taken ≡ passed.taken → Judges s before (Send at part r selector arguments) new
judges_message s before between at part r selector arguments class judged new passed here own unknown e j p k o u b i t c f n =
    let kind = message_kind s (class_receiver s r) (kind_of s r) (class_of s r) selector in
    let is : new.kind ≡ kind = k ∙ ap (λ x. message_kind s x judged.kind (option_map number_of_class judged.class) selector) e ∙ ap (λ x. message_kind s (class_receiver s r) x (option_map number_of_class judged.class) selector) j.kind
    ∙ ap (λ x. message_kind s (class_receiver s r) (kind_of s r) x selector) j.class in
    let one = if is_some (class_receiver s r) then [] else broken s r ++ unmet AnObject (kind_of s r) (place r) in
    let two = no_method s (class_receiver s r) (kind_of s r) (class_of s r) selector part in
    let gives = place_if (is_object kind) part in
    record {
      kind = is;
      class = c ∙ ap (λ x. sent_class s.known x (option_map number_of_class judged.class) selector) e ∙ ap (λ x. sent_class s.known (class_receiver s r) x selector) j.class;
      fault = first_both (one ++ two) (broken_arguments s (Some (s.known.passed (receiver_sign (class_receiver s r)) selector)) false arguments) (earlier_of own unknown) (option_map reported passed.fault) (option_map reported new.fault)
          (first_both one two own unknown _
          (o ∙ ap (λ x. cond (is_some x) None (earlier_of (option_map reported judged.fault) (first (unmet AnObject judged.kind here)))) e
          ∙ unless_class (is_some (class_receiver s r)) (broken s r ++ unmet AnObject (kind_of s r) (place r)) _ (with_rule s (broken s r) r (unmet AnObject) (option_map reported judged.fault) _ judged.kind here j.fault j.kind p refl))
          (u ∙ ap (λ x. first (no_method s x judged.kind (option_map number_of_class judged.class) selector part)) e ∙ ap (λ x. first (no_method s (class_receiver s r) x (option_map number_of_class judged.class) selector part)) j.kind
          ∙ ap (λ x. first (no_method s (class_receiver s r) (kind_of s r) x selector part)) j.class) refl)
          (i ∙ ap (λ x. first (broken_arguments s (Some (s.known.passed (receiver_sign x) selector)) false arguments)) e) f;
      taken = n ∙ counted_both before between passed.taken (taken s r ++ gives) (all_taken s arguments)
          (counted_both before judged.taken between (taken s r) gives j.taken (b ∙ ap (λ x. counted judged.taken (place_if (is_object x) part)) is)) t;
      unread = never;
    }

pub judges_super_message : (s : Scope) (before between : Taken) (at part super_at : ℕ) (selector : List ℕ) (arguments : ExprTrees) (new : Judged) (passed : Arguments) (unknown : Option Broken) → new.kind ≡ super_kind s selector → option_map number_of_class new.class ≡ super_class s selector
    → unknown ≡ first (broken_if (is_none new.kind) part 42) → between ≡ counted (counted before (place_if (is_some (own_class s)) super_at)) (place_if (is_object new.kind) part)
    → option_map reported passed.fault ≡ first (broken_arguments s (Some (s.known.passed s.sign selector)) false arguments) → passed.taken ≡ counted between (all_taken s arguments)
    → option_map reported new.fault ≡ earlier_of unknown (option_map reported passed.fault) → new.taken ≡ passed.taken → Judges s before (SendSuper at part super_at selector arguments) new
judges_super_message s before between at part super_at selector arguments new passed unknown k c u b i t f n =
    let reads = place_if (is_some (own_class s)) super_at in
    let gives = place_if (is_object (super_kind s selector)) part in
    record {
      kind = k;
      class = c;
      fault = first_both (broken_if (is_none (super_kind s selector)) part 42) (broken_arguments s (Some (s.known.passed s.sign selector)) false arguments) unknown (option_map reported passed.fault) (option_map reported new.fault) (u ∙ ap (λ x. first (broken_if (is_none x) part 42)) k) i f;
      taken = n ∙ counted_both before between passed.taken (reads ++ gives) (all_taken s arguments)
          (counted_both before (counted before reads) between reads gives refl (b ∙ ap (λ x. counted (counted before reads) (place_if (is_object x) part)) k)) t;
      unread = never;
    }

-- ---- arguments

pub taken_turn : (s : Scope) (xs : List Expr) (i : ℕ) (x : Expr) (so_far one whole : Taken) → i < length xs → x ≡ get_or xs i x → one ≡ counted so_far (taken s (expr_tree x)) → whole ≡ counted so_far (all_taken s (expr_trees (drop i xs)))
    → whole ≡ counted one (all_taken s (expr_trees (drop (i + 1) xs)))
taken_turn s xs i x so_far one whole l e o w =
    let rest = all_taken s (expr_trees (drop (i + 1) xs)) in
    w ∙ ap (λ us. counted so_far (all_taken s (expr_trees us))) (drop_turn xs i x l e) ∙ sym (counted_both so_far one (counted one rest) (taken s (expr_tree x)) rest o refl)

pub count-expr_trees : (s : Scope) (all : List Expr) → length (kinds s (expr_trees all)) ≡ length all
count-expr_trees s [] = refl
count-expr_trees s (a ∷ all) = rw (count-expr_trees s all) refl

and-assoc : (p q r : Bool) → (p && (q && r)) ≡ ((p && q) && r)
and-assoc true q r = refl
and-assoc false q r = refl

-- one argument more
pub fit_turn : (s : Scope) (xs : List Expr) (i : ℕ) (x : Expr) (kind : Option Kind) (wanted scope_after : List Part) (so_far fit now whole : Bool) → i < length xs → x ≡ get_or xs i x → kind ≡ kind_of s (expr_tree x)
    → ((ks : List (Option Kind)) → fits wanted (kind ∷ ks) ≡ (fit && fits scope_after ks)) → whole ≡ (so_far && fits wanted (kinds s (expr_trees (drop i xs)))) → now ≡ (so_far && fit)
    → whole ≡ (now && fits scope_after (kinds s (expr_trees (drop (i + 1) xs))))
fit_turn s xs i x kind wanted scope_after so_far fit now whole l e k h w n =
    let rest = kinds s (expr_trees (drop (i + 1) xs)) in
    w ∙ ap (λ us. so_far && fits wanted (kinds s (expr_trees us))) (drop_turn xs i x l e) ∙ ap (λ one. so_far && fits wanted (one ∷ rest)) (sym k) ∙ ap (λ all. so_far && all) (h rest)
    ∙ and-assoc so_far fit (fits scope_after rest) ∙ ap (λ p. p && fits scope_after rest) (sym n)

pub fault_turn : (s : Scope) (wanted : Option (List Kind)) (kind : Option Kind) (others : Option (List Kind)) (xs : List Expr) (i : ℕ) (x : Expr) (so_far one now whole : Option Broken) → i < length xs → x ≡ get_or xs i x → kind ≡ first_wanted wanted → others ≡ option_map (drop 1) wanted
    → one ≡ earlier_of (first (broken s (expr_tree x))) (first (no_such kind (kind_of s (expr_tree x)) (place (expr_tree x)))) → now ≡ earlier_of so_far one
    → whole ≡ earlier_of so_far (first (broken_arguments s wanted false (expr_trees (drop i xs)))) → whole ≡ earlier_of now (first (broken_arguments s others false (expr_trees (drop (i + 1) xs))))
fault_turn s wanted kind others xs i x so_far one now whole l e k d o n w =
    let own = broken s (expr_tree x) in
    let suits = no_such (first_wanted wanted) (kind_of s (expr_tree x)) (place (expr_tree x)) in
    first_turn (own ++ suits) (broken_arguments s (option_map (drop 1) wanted) false (expr_trees (drop (i + 1) xs))) so_far one now whole
    (o ∙ ap (λ q. earlier_of (first own) (first (no_such q (kind_of s (expr_tree x)) (place (expr_tree x))))) k ∙ sym (first-append own suits)) n
    (w ∙ ap (λ us. earlier_of so_far (first (broken_arguments s wanted false (expr_trees us)))) (drop_turn xs i x l e))
    ∙ ap (λ q. earlier_of now (first (broken_arguments s q false (expr_trees (drop (i + 1) xs))))) (sym d)

is_none-reported : (o : Option CheckFault) → is_none (option_map reported o) ≡ is_none o
is_none-reported None = refl
is_none-reported (Some f) = refl

is_none-broken_at : (at : ℕ) (rule : Option ℕ) → is_none (first (broken_at at rule)) ≡ is_none rule
is_none-broken_at at None = refl
is_none-broken_at at (Some n) = refl

other_is : (s : Scope) (before between : Taken) (at : ℕ) (callee : Callee) (given : Option ℕ) (parameters : List Kind) (all : List Expr) (own : Option CheckFault) (inside : Arguments) (judged : Judged) → is_printf callee ≡ false
    → call_rule callee (expr_trees all) (kinds s (expr_trees all)) ≡ other_rule callee (length (kinds s (expr_trees all))) → option_map reported own ≡ first (broken_at at (other_rule callee (length all))) → judged.kind ≡ kind_if (is_none own) (result_kind callee)
    → option_map number_of_class judged.class ≡ given → option_map reported judged.fault ≡ earlier_of (option_map reported own) (option_map reported inside.fault) → between ≡ counted before (place_if (is_object judged.kind) at) → judged.taken ≡ inside.taken
    → option_map reported inside.fault ≡ first (broken_arguments s (Some parameters) false (expr_trees all)) → inside.taken ≡ counted between (all_taken s (expr_trees all)) → JudgesCall s before at callee given parameters (expr_trees all) judged
other_is s before between at callee given parameters all own inside judged p r o k c f b t i n =
    let rule = call_rule callee (expr_trees all) (kinds s (expr_trees all)) in
    let same : other_rule callee (length all) ≡ rule = ap (other_rule callee) (sym (count-expr_trees s all)) ∙ sym r in
    let reported_own : option_map reported own ≡ first (broken_at at rule) = o ∙ ap (λ x. first (broken_at at x)) same in
    let kind : judged.kind ≡ kind_if (is_none rule) (result_kind callee) = k ∙ ap (λ b. kind_if b (result_kind callee)) (sym (is_none-reported own) ∙ ap is_none reported_own ∙ is_none-broken_at at rule) in
    record {
      kind = kind;
      class = c;
      fault = first_both (broken_at at rule) (broken_arguments s (wanted_by callee parameters) (is_printf callee) (expr_trees all)) (option_map reported own) (option_map reported inside.fault) (option_map reported judged.fault) reported_own
          (i ∙ ap (λ b. first (broken_arguments s (if b then None else Some parameters) b (expr_trees all))) (sym p)) f;
      taken = t ∙ counted_both before between inside.taken (place_if (is_object (kind_if (is_none rule) (result_kind callee))) at) (all_taken s (expr_trees all)) (b ∙ ap (λ x. counted before (place_if (is_object x) at)) kind) n;
    }

-- a call of another function than printf
pub judges_other : (s : Scope) (before between : Taken) (at : ℕ) (callee : Callee) (given : Option ℕ) (parameters : List Kind) (all : List Expr) (own : Option CheckFault) (inside : Arguments) (judged : Judged) → (callee ≡ Printf → ⊥)
    → option_map reported own ≡ first (broken_at at (other_rule callee (length all))) → judged.kind ≡ kind_if (is_none own) (result_kind callee) → option_map number_of_class judged.class ≡ given
    → option_map reported judged.fault ≡ earlier_of (option_map reported own) (option_map reported inside.fault) → between ≡ counted before (place_if (is_object judged.kind) at) → judged.taken ≡ inside.taken
    → option_map reported inside.fault ≡ first (broken_arguments s (Some parameters) false (expr_trees all)) → inside.taken ≡ counted between (all_taken s (expr_trees all)) → JudgesCall s before at callee given parameters (expr_trees all) judged
judges_other s before between at Printf given parameters all own inside judged n o k c f b t i m = absurd (n refl)
judges_other s before between at GetChar given parameters all own inside judged n o k c f b t i m = other_is s before between at GetChar given parameters all own inside judged refl refl o k c f b t i m
judges_other s before between at (Defined result wanted body) given parameters all own inside judged n o k c f b t i m = other_is s before between at (Defined result wanted body) given parameters all own inside judged refl refl o k c f b t i m
judges_other s before between at Unknown given parameters all own inside judged n o k c f b t i m = other_is s before between at Unknown given parameters all own inside judged refl refl o k c f b t i m
