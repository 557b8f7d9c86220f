-- A scope stays in the same method after its statements, and leaving an inner scope brings back what was visible before.
use Rattle.std.proofs.Common.{◌≡◌, ℕ, Bool, true, false, List, [], ◌∷◌, option_map, refl, ap, ◌∙◌}
use Rattle.arc_ast.specs.Tree as tree
use Rattle.arc_ast.specs.Tree.{TypeTree, VariableTree, StmtTree, StmtTrees, Block, Empty, Simple, Return, Variables, If, IfElse, While, For, Break, Continue, no_stmts, and_stmt}
use Rattle.arc_class.specs.declared.table.ClassTable.{ClassTable}
use Rattle.arc_class.specs.Table.{number_of_class}
use Rattle.arc_scope.specs.declared.scope.Visible.{Visible}
use Rattle.arc_scope.specs.Scopes.{Scope, has_place, with_variable, declare, with_variables, leave, scope_after, scope_after_all}
use Rattle.arc_scope.specs.Views.{local_in, seen}
use Rattle.arc_scope.proofs.VisibleVariables.{scope_is}

-- the method that a scope is in is another's
pub record SameBody (s t : Scope) : Type 0 where
  pub class : s.class ≡ t.class
  pub sign : s.sign ≡ t.sign
  pub result : s.result ≡ t.result
  pub owns : s.owns ≡ t.owns
  pub hidden : s.hidden ≡ t.hidden

same : (s : Scope) → SameBody s s
same s = record { class = refl; sign = refl; result = refl; owns = refl; hidden = refl }

after : (r s t : Scope) → SameBody r s → SameBody s t → SameBody r t
after r s t a b = record { class = a.class ∙ b.class; sign = a.sign ∙ b.sign; result = a.result ∙ b.result; owns = a.owns ∙ b.owns; hidden = a.hidden ∙ b.hidden }

variable_same : (name : List ℕ) (type : TypeTree) (s : Scope) → SameBody (with_variable name type s) s
variable_same name tree.Boolean s = record { class = refl; sign = refl; result = refl; owns = refl; hidden = refl }
variable_same name tree.Int s = record { class = refl; sign = refl; result = refl; owns = refl; hidden = refl }
variable_same name tree.Long s = record { class = refl; sign = refl; result = refl; owns = refl; hidden = refl }
variable_same name tree.Id s = record { class = refl; sign = refl; result = refl; owns = refl; hidden = refl }
variable_same name (tree.Object at class) s = record { class = refl; sign = refl; result = refl; owns = refl; hidden = refl }

declare_same : (name : List ℕ) (type : TypeTree) (s : Scope) → SameBody (declare name type s) s
declare_same name type s = go (has_place s) refl
  where
    go : (b : Bool) → has_place s ≡ b → SameBody (declare name type s) s
    go true e = rw e (variable_same name type s)
    go false e = rw e (same s)

variables_same : (type : TypeTree) (s : Scope) (all : List VariableTree) → SameBody (with_variables type s all) s
variables_same type s [] = same s
variables_same type s (v ∷ all) = after _ _ _ (variables_same type (declare v.name type s) all) (declare_same v.name type s)

pub after_same : (s : Scope) (a : StmtTree) → SameBody (scope_after s a) s
after_same s (Block at all) = record { class = refl; sign = refl; result = refl; owns = refl; hidden = refl }
after_same s (Empty at) = same s
after_same s (Simple a) = same s
after_same s (Return at a) = same s
after_same s (Variables at qualifiers type all) = variables_same type s all
after_same s (If at c a) = record { class = refl; sign = refl; result = refl; owns = refl; hidden = refl }
after_same s (IfElse at c a b) = record { class = refl; sign = refl; result = refl; owns = refl; hidden = refl }
after_same s (While at moment c a) = record { class = refl; sign = refl; result = refl; owns = refl; hidden = refl }
after_same s (For at a c e b) = record { class = refl; sign = refl; result = refl; owns = refl; hidden = refl }
after_same s (Break at) = same s
after_same s (Continue at) = same s

pub after_all_same : (s : Scope) (all : StmtTrees) → SameBody (scope_after_all s all) s
after_all_same s no_stmts = same s
after_all_same s (and_stmt a all) = after _ _ _ (after_all_same (scope_after s a) all) (after_same s a)

-- what `leave` keeps of what is visible
pub record Left (old new : Visible) : Type 0 where
  pub next : new.next ≡ old.next
  pub names : new.names ≡ old.names
  pub class : new.class ≡ old.class
  pub sign : new.sign ≡ old.sign
  pub gives : new.result ≡ old.result
  pub owns : new.owns ≡ old.owns
  pub hidden : new.hidden ≡ old.hidden

pub leave_is : (table : ClassTable) (old mid new : Visible) (inner : Scope) → SameBody inner (seen table old) → seen table mid ≡ inner → new.bound.items ≡ old.bound.items → Left mid new → seen table new ≡ leave (seen table old) inner
leave_is table old mid new inner t e b l =
    scope_is _ _ _ _ _ _ _ _ _ _ _ _ _ _ _ _ _ (ap (option_map number_of_class) l.class ∙ ap (λ s. s.class) e ∙ t.class) (l.sign ∙ ap (λ s. s.sign) e ∙ t.sign) (l.gives ∙ ap (λ s. s.result) e ∙ t.result) (l.owns ∙ ap (λ s. s.owns) e ∙ t.owns) (l.hidden ∙ ap (λ s. s.hidden) e ∙ t.hidden) (ap local_in b)
    (l.next ∙ ap (λ s. s.next) e) (l.names ∙ ap (λ s. s.names) e)

-- the same after a scope in another
pub inner_same : (r s t : Scope) → SameBody s r → SameBody (leave s t) r
inner_same r s t h = record { class = h.class; sign = h.sign; result = h.result; owns = h.owns; hidden = h.hidden }
