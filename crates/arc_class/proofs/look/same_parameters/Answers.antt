use Rattle.std.proofs.Common.{◌≡◌, suc, Bool, true, false, List, [], ◌∷◌, length, nat_eq, arith, refl, sym, ap, ◌∙◌}
use Rattle.std.proofs.lemmas.Grind.{common_steps}
use Rattle.std.proofs.lemmas.Bool.{eqb-true}
use Rattle.arc_ast.specs.declared.tree.Parameter.{Parameter}
use Rattle.arc_ast.specs.Tree.{parameter_trees}
use Rattle.arc_class.specs.FunctionRules.{same_kinds}
use Rattle.arc_class.specs.FunctionNames.{parameter_kinds}
use Rattle.arc_class.proofs.ListSuffixes.{drop_end}
use Rattle.arc_class.proofs.look.same_parameters.Goals as goal

no_other : (rest : List Parameter) → nat_eq (length rest) 0 ≡ same_kinds [] (parameter_kinds (parameter_trees rest))
no_other [] = refl
no_other (p ∷ rest) = by (nat_eq (suc (length rest)) 0) refl
  where
    by : (b : Bool) → nat_eq (suc (length rest)) 0 ≡ b → nat_eq (suc (length rest)) 0 ≡ false
    by true e = absurd (omega (arith, eqb-true (suc (length rest)) 0 e))
    by false e = e

pub returns : goal.returns
returns c =
    let end = drop_end c.args.first.now c.loop-parameter.parameter-index c.loop-parameter-test.false in
    c.is_empty.ensures ∙ no_other c.loop-parameter.rest.now
    ∙ sym (ap (λ ps. same_kinds (parameter_kinds (parameter_trees ps)) (parameter_kinds (parameter_trees c.loop-parameter.rest.now))) end)
    ∙ sym c.loop-parameter.invariant

pub loop-parameter-preserved : goal.loop-parameter-preserved
loop-parameter-preserved c = grind (arith, common_steps)

pub returns-then-not-same_kind : goal.returns-then-not-same_kind
returns-then-not-same_kind c = grind (arith, common_steps)

pub returns-in_default : goal.returns-in_default
returns-in_default c = grind (arith, common_steps)
