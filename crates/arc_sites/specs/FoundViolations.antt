-- What a walk through sites finds.
use Rattle.std.specs.Prelude.{List, [], ◌∷◌, flat_map, Option, option_map}
use Rattle.arc_ast.specs.Tree.{expr_tree, variable_tree, stmt_tree, stmt_trees, type_tree, parameter_trees, function_tree, global_tree, field_tree, head_tree}
use Rattle.arc_sites.specs.declared.violation.Violation.{Violation}
use Rattle.arc_sites.specs.declared.message.Message as code_message
use Rattle.arc_sites.specs.declared.node.Enclosing as code_enclosing
use Rattle.arc_sites.specs.declared.node.Enclosing.TheVariants as e
use Rattle.arc_sites.specs.declared.node.Node as code_node
use Rattle.arc_sites.specs.declared.node.Node.TheVariants as n
use Rattle.arc_sites.specs.Violations.{first, earlier_of}
use Rattle.arc_sites.specs.Sites.{Enclosing, InFunction, InMethod, InInterface, InImplementation, InSource, Node, Value, Statement, Variable, Body, Function, Global, Field, Declared, Defined, Site}
use Rattle.arc_sites.specs.Messages.{Message}

-- ---- what the code has of a node, without where it lies in memory

abbrev pub enclosing_of : code_enclosing.Enclosing → Enclosing
enclosing_of e.Function = InFunction
enclosing_of (e.Method class head) = InMethod class.now.name.items (head_tree head.now)
enclosing_of (e.Interface class) = InInterface class.now.name.items
enclosing_of (e.Implementation class) = InImplementation class.now.name.items
enclosing_of e.Source = InSource

abbrev pub node_of : code_node.Node → Node
node_of (n.Value a) = Value (expr_tree a.now)
node_of (n.Statement a) = Statement (stmt_tree a.now)
node_of (n.Variable qualifiers type v) = Variable qualifiers (type_tree type.now) (variable_tree v.now)
node_of (n.Body parameters body) = Body (parameter_trees parameters.now) (stmt_trees body.now)
node_of (n.Function f) = Function (function_tree f.now)
node_of (n.Global g) = Global (global_tree g.now)
node_of (n.Field f) = Field (field_tree f.now)
node_of (n.Declared h) = Declared (head_tree h.now)
node_of (n.Defined h) = Defined (head_tree h.now)

abbrev pub message_of : code_message.Message → Message
message_of m = record { part = m.part; receiver = option_map (λ a. expr_tree a.now) m.receiver; selector = m.selector.now }

-- ---- rules, each of which says what is violated at a site

-- all that is violated at some sites
abbrev pub violations_of : (Enclosing → Node → List Violation) → List Site → List Violation
violations_of rules = flat_map (λ x. rules x.enclosing x.node)

-- what is found first at some sites, where this was found before
abbrev pub found_from : (Enclosing → Node → List Violation) → Option Violation → List Site → Option Violation
found_from rules before [] = before
found_from rules before (x ∷ others) = found_from rules (earlier_of before (first (rules x.enclosing x.node))) others
