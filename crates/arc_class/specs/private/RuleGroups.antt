-- The rules of a source's classes, and those that come before them.
use Rattle.std.specs.Prelude.{List, [], ◌++◌}
use Rattle.arc_ast.specs.Tree.{UnitTree}
use Rattle.arc_sites.specs.FoundViolations.{violations_of}
use Rattle.arc_sites.specs.Sites.{unit_sites}
use Rattle.arc_class.specs.BrokenRules.{Broken, in_order}
use Rattle.arc_class.specs.ClassRules.{broken_interface, broken_implementation}
use Rattle.arc_class.specs.FunctionRules.{duplicate, missing_main}
use Rattle.arc_class.specs.FunctionNames.{number_of, is_main}
use Rattle.arc_class.specs.SiteRules.{violations}

-- all that is broken in functions, but for their bodies, and at sites
abbrev pub before_classes : UnitTree → List Broken
before_classes u = in_order duplicate [] u.functions ++ (missing_main (number_of is_main u.functions) ++ violations_of (violations u) (unit_sites u))

-- all that is broken in classes
abbrev pub in_classes : UnitTree → List Broken
in_classes u = in_order (broken_interface u) [] u.interfaces ++ in_order (broken_implementation u) [] u.implementations
