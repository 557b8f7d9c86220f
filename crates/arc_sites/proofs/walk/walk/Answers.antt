use Rattle.std.proofs.Common.{◌++◌, flat_map}
use Rattle.std.proofs.lemmas.Result.{on_ok_weaker}
use Rattle.arc_ast.specs.Tree.{function_trees, global_trees, interface_trees, implementation_trees}
use Rattle.arc_sites.specs.Sites.{InSource, Global, site, function_sites, interface_sites, implementation_sites}
use Rattle.arc_sites.proofs.FoundIsFirst.{found_both, found_three}
use Rattle.arc_sites.proofs.walk.walk.Goals as goal

pub returns-clause-found : goal.returns-clause-found
returns-clause-found g c =
    let u = c.args.unit.now in
    let globals = flat_map (λ g. site InSource (Global g)) (global_trees u.globals.items) in
    let interfaces = flat_map interface_sites (interface_trees u.interfaces.items) in
    let implementations = flat_map implementation_sites (implementation_trees u.implementations.items) in
    on_ok_weaker c.implementations.result (λ e. found_both _ _ _ _ _ (flat_map function_sites (function_trees u.functions.items)) (globals ++ (interfaces ++ implementations)) c.in_ok-functions.ensures.same (rw c.deref.ensures.value at c.in_ok-functions.ensures.found)
    (found_three _ _ _ _ _ _ _ globals interfaces implementations c.in_ok-globals.ensures.same c.in_ok-interfaces.ensures.same
    (rw c.deref-2.ensures.value at c.in_ok-globals.ensures.found) (rw c.deref-3.ensures.value at c.in_ok-interfaces.ensures.found) e)) (rw c.deref-4.ensures.value at c.implementations.ensures.found)
