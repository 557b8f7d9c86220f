use Rattle.std.proofs.Common.{◌≡◌, Some, ap, ◌∙◌}
use Rattle.std.specs.Map.{update}
use Rattle.std.specs.Str.{bytes_eq}
use Rattle.arc_ast.specs.Tree.{function_tree}
use Rattle.arc_class.specs.private.FunctionSummary.{joined, fault_with}
use Rattle.arc_class.specs.Table.{at_name}
use Rattle.arc_class.proofs.look.Seen.add.Goals as goal

pub returns : goal.returns
returns c =
    let old = c.args.self.now in
    let f = c.args.function.now in
    let before : c.at_name-earlier.result ≡ at_name old.known f.name.items = c.at_name-earlier.ensures ∙ ap (at_name old.known) c.deref.ensures.value in
    record {
      knows = λ q. c.in_ok-insert.ensures.updates q ∙ ap (λ n. update bytes_eq (at_name old.known) n (Some c.joined-declared.result) q) c.deref-2.ensures.value
          ∙ ap (λ d. update bytes_eq (at_name old.known) f.name.items (Some d) q) (c.joined-declared.ensures ∙ ap (λ o. joined o old.bodies (function_tree f)) before);
      bodies = c.bodies_with-self.ensures;
      main = c.main_with-main.ensures;
      fault = c.fault_with-fault.ensures ∙ ap (λ o. fault_with old.fault o (function_tree f)) before;
    }
