-- Which kind of value a written type is of (C99, section 6.2.5; OPL, "Object Identifiers" and "Static Typing"), and qualifiers that are written of one variable.
use Rattle.arc_ast.specs.declared.tree.Kind.{Kind}
use Rattle.arc_ast.specs.declared.tree.Kind.TheVariants as kinds
use Rattle.arc_ast.specs.declared.tree.Qual.{Qual}
use Rattle.arc_ast.specs.declared.tree.Qualifiers.{Qualifiers}
use Rattle.arc_ast.specs.declared.tree.Qualifiers.TheVariants.{Unqualified, Qualified, Several}
use Rattle.arc_ast.specs.Tree.{TypeTree, Boolean, Int, Long, Id, Object, ResultTree, Void, Value, Related}

abbrev pub type_kind : TypeTree → Kind
type_kind Boolean = kinds.Bool
type_kind Int = kinds.Int
type_kind Long = kinds.Long
type_kind Id = kinds.Object
type_kind (Object at name) = kinds.Object

abbrev pub result_kind : ResultTree → Kind
result_kind Void = kinds.Void
result_kind (Value type) = type_kind type
result_kind Related = kinds.Object

-- qualifiers and one more
abbrev pub and_qualifier : Qualifiers → Qual → Qualifiers
and_qualifier Unqualified q = Qualified q
and_qualifier (Qualified p) q = Several
and_qualifier Several q = Several

-- qualifiers and others
abbrev pub both_qualifiers : Qualifiers → Qualifiers → Qualifiers
both_qualifiers all Unqualified = all
both_qualifiers all (Qualified q) = and_qualifier all q
both_qualifiers all Several = Several
