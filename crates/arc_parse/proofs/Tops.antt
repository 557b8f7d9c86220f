-- What a unit has: the loop that reads it.
use Rattle.std.proofs.Common.{◌≡◌, List, [], refl}
use Rattle.arc_lex.specs.Tokens.{Tok}
use Rattle.arc_ast.specs.declared.tree.Function.{Function}
use Rattle.arc_ast.specs.declared.tree.Global.{Global}
use Rattle.arc_ast.specs.declared.tree.Interface.{Interface}
use Rattle.arc_ast.specs.declared.tree.Implementation.{Implementation}
use Rattle.arc_ast.specs.Tree.{UnitTree, function_trees, global_trees, interface_trees, implementation_trees}
use Rattle.arc_form.specs.Reader.{Reader}
use Rattle.arc_form.specs.Joining.{joining}
use Rattle.arc_grammar.specs.Grammar.{and_top, empty_unit, reads, begins_top, unit}
use Rattle.arc_grammar.specs.Grammar as grammar

-- a unit, and after it all that is read
abbrev pub tops_on : UnitTree → Reader UnitTree
tops_on = joining begins_top (reads grammar.top) and_top

pub tops_start : (ts : List Tok) → reads unit ts ≡ tops_on empty_unit ts
unfolding unit grammar.tops
tops_start ts = refl

-- a unit of nothing
pub nothing_yet : (fs : List Function) (gs : List Global) (is : List Interface) (js : List Implementation) → fs ≡ [] → gs ≡ [] → is ≡ [] → js ≡ []
    → record { functions = function_trees fs; globals = global_trees gs; interfaces = interface_trees is; implementations = implementation_trees js } ≡ empty_unit
nothing_yet fs gs is js p o q r = rw (p, o, q, r) refl
