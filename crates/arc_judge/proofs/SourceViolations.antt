-- The first violation in a whole source.
use Rattle.std.proofs.Common.{◌≡◌, List, ◌++◌, Option, ap, ◌∙◌}
use Rattle.std.specs.List.{flat_map}
use Rattle.arc_ast.specs.Tree.{FunctionTree, GlobalTree, InterfaceTree, ImplementationTree, UnitTree}
use Rattle.arc_class.specs.declared.table.ClassTable.{ClassTable}
use Rattle.arc_class.specs.BrokenRules.{Broken, first, earlier_of}
use Rattle.arc_class.specs.Table.{IsTableOf}
use Rattle.arc_class.proofs.FirstBrokenRule.{first_both}
use Rattle.arc_judge.specs.Rules.{broken_function, broken_global, broken_unit}
use Rattle.arc_judge.specs.private.ExpressionJudgements.{broken_interface, broken_implementation}
use Rattle.arc_scope.specs.KnownNames.{known_of}
use Rattle.arc_scope.specs.Views.{known_in}
use Rattle.arc_scope.proofs.TableKnowsNames.{known_is}

pub reported_of_unit : (u : UnitTree) (table : ClassTable) (fs : List FunctionTree) (gs : List GlobalTree) (is : List InterfaceTree) (ms : List ImplementationTree) (one held two three classes between all : Option Broken) → IsTableOf u table → fs ≡ u.functions → gs ≡ u.globals → is ≡ u.interfaces → ms ≡ u.implementations
    → one ≡ first (flat_map (broken_function (known_in table)) fs) → held ≡ first (flat_map broken_global gs) → two ≡ first (flat_map broken_interface is) → three ≡ first (flat_map (broken_implementation (known_in table)) ms)
    → classes ≡ earlier_of two three → between ≡ earlier_of held classes → all ≡ earlier_of one between → all ≡ first (broken_unit u)
reported_of_unit u table fs gs is ms one held two three classes between all t f v i m o h p q b d a =
    let k = known_of u in
    let same = known_is u table t in
    let functions : one ≡ first (flat_map (broken_function k) u.functions) = o ∙ ap (λ us. first (flat_map (broken_function (known_in table)) us)) f ∙ ap (λ known. first (flat_map (broken_function known) u.functions)) same in
    let globals : held ≡ first (flat_map broken_global u.globals) = h ∙ ap (λ us. first (flat_map broken_global us)) v in
    let interfaces : two ≡ first (flat_map broken_interface u.interfaces) = p ∙ ap (λ us. first (flat_map broken_interface us)) i in
    let implementations : three ≡ first (flat_map (broken_implementation k) u.implementations) = q ∙ ap (λ us. first (flat_map (broken_implementation (known_in table)) us)) m ∙ ap (λ known. first (flat_map (broken_implementation known) u.implementations)) same in
    let others = flat_map broken_interface u.interfaces ++ flat_map (broken_implementation k) u.implementations in
    first_both (flat_map (broken_function k) u.functions) (flat_map broken_global u.globals ++ others) one between all functions
    (first_both (flat_map broken_global u.globals) others held classes between globals
    (first_both (flat_map broken_interface u.interfaces) (flat_map (broken_implementation k) u.implementations) two three classes interfaces implementations b) d) a
