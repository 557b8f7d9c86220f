-- Methods whose families are known.
use Rattle.std.specs.Prelude.{ℕ, true, false, List}
use Rattle.arc_ast.specs.declared.tree.Kind.TheVariants.{Int, Void, Object}
use Rattle.arc_spec.specs.declared.signature.Family.{Family}
use Rattle.arc_spec.specs.Families.{family_of}

-- the family of an instance method that returns an object
abbrev pub of_instance_method : (selector : List ℕ) → Family
of_instance_method selector = family_of selector (record { instance = true; result = Object })

-- of a class method that returns an object
abbrev pub of_class_method : (selector : List ℕ) → Family
of_class_method selector = family_of selector (record { instance = false; result = Object })

-- of an instance method that returns an int
abbrev pub of_int_method : (selector : List ℕ) → Family
of_int_method selector = family_of selector (record { instance = true; result = Int })

-- of an instance method that returns nothing
abbrev pub of_void_method : (selector : List ℕ) → Family
of_void_method selector = family_of selector (record { instance = true; result = Void })
