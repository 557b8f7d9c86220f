-- What a whole source is resolved to.
use Rattle.std.proofs.Common.{◌≡◌, ℕ, ℤ, List, ◌++◌, refl, sym, ap, ◌∙◌}
use Rattle.std.specs.Option.{unwrap_or}
use Rattle.std.specs.List.{flat_map, filter_map}
use Rattle.arc_ast.specs.Tree.{FunctionTree, ImplementationTree, UnitTree}
use Rattle.arc_class.specs.declared.table.ClassTable.{ClassTable}
use Rattle.arc_class.specs.Table.{IsTableOf}
use Rattle.arc_checked.specs.declared.program.Checked.{Checked}
use Rattle.arc_checked.specs.declared.program.CheckedFunction.{CheckedFunction}
use Rattle.arc_checked.specs.Checked as checked
use Rattle.arc_resolve.specs.SourceResolution.{resolved_function, resolved_unit}
use Rattle.arc_resolve.specs.private.ResolvedNodes.{resolved_methods}
use Rattle.arc_scope.specs.Views.{known_in}
use Rattle.arc_scope.proofs.TableKnowsNames.{known_is}
use Rattle.arc_spec.specs.Classes.{Class, classes_of}
use Rattle.arc_spec.specs.Resolved as resolved

pub functions_are : (u : UnitTree) (table : ClassTable) (fs : List FunctionTree) (ms : List ImplementationTree) (old new : List CheckedFunction) → IsTableOf u table → fs ≡ u.functions → ms ≡ u.implementations
    → checked.functions old ≡ filter_map (resolved_function (known_in table)) fs → checked.functions new ≡ checked.functions old ++ flat_map (resolved_methods (known_in table)) ms → checked.functions new ≡ (resolved_unit u).functions
functions_are u table fs ms old new t f m o n =
    let k = known_in table in
    n ∙ ap (λ us. us ++ flat_map (resolved_methods k) ms) o ∙ ap (λ us. filter_map (resolved_function k) us ++ flat_map (resolved_methods k) ms) f ∙ ap (λ us. filter_map (resolved_function k) u.functions ++ flat_map (resolved_methods k) us) m
    ∙ ap (λ known. filter_map (resolved_function known) u.functions ++ flat_map (resolved_methods known) u.implementations) (known_is u table t)

abbrev program : List resolved.Function → ℕ → List ℤ → ℕ → List Class → resolved.Program
program functions main globals strong_globals classes = record { functions = functions; main = main; globals = globals; strong_globals = strong_globals; classes = classes }

program_is : (f g : List resolved.Function) (m n : ℕ) (h i : List ℤ) (s t : ℕ) (c d : List Class) → f ≡ g → m ≡ n → h ≡ i → s ≡ t → c ≡ d → program f m h s c ≡ program g n i t d
program_is f g m n h i s t c d a b o w e = rw (a, b, o, w, e) refl

pub resolved_is : (u : UnitTree) (table : ClassTable) (new : Checked) → IsTableOf u table → checked.functions new.functions.items ≡ (resolved_unit u).functions → new.main ≡ table.main → new.globals.items ≡ (resolved_unit u).globals → new.strong_globals ≡ (resolved_unit u).strong_globals
    → classes_of new.classes.items ≡ classes_of table.classes.items → checked.program_of new ≡ resolved_unit u
resolved_is u table new t f m g s c = program_is _ _ _ _ _ _ _ _ _ _ f (m ∙ sym (ap (λ n. unwrap_or n 0) t.main)) g s (c ∙ t.classes)
