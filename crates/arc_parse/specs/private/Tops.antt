-- What stands outside of all else, without where it lies in memory.
use Rattle.arc_ast.specs.Tree.{function_tree, global_trees, interface_tree, implementation_tree}
use Rattle.arc_grammar.specs.Grammar.{TopTree, OfNames, OfFunction, OfGlobals, OfInterface, OfImplementation}
use Rattle.arc_parse.specs.declared.top.Top.{Top}
use Rattle.arc_parse.specs.declared.top.Top.TheVariants as top

abbrev pub top_tree : Top → TopTree
top_tree top.Names = OfNames
top_tree (top.Function f) = OfFunction (function_tree f)
top_tree (top.Globals all) = OfGlobals (global_trees all.items)
top_tree (top.Interface i) = OfInterface (interface_tree i)
top_tree (top.Implementation i) = OfImplementation (implementation_tree i)
