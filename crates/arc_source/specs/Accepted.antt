-- When a source is a program, and what it means.
use Rattle.std.specs.Prelude.{◌≡◌, ℕ, List, []}
use Rattle.arc_lex.specs.Tokens.{Tok}
use Rattle.arc_lex.specs.Source.{Tokens}
use Rattle.arc_ast.specs.Tree.{UnitTree}
use Rattle.arc_grammar.specs.Grammar.{these}
use Rattle.arc_parse.specs.Refusal.{SpellsUnit}
use Rattle.arc_class.specs.ClassRules.{broken}
use Rattle.arc_judge.specs.Rules.{broken_unit}
use Rattle.arc_resolve.specs.SourceResolution.{resolved_unit}
use Rattle.arc_family.specs.Rules as ownership
use Rattle.arc_spec.specs.Resolved as resolved
use Rattle.arc_spec.specs.Meaning.{mean}
use Rattle.arc_spec.specs.Correctness.{Observation, meaning_seen}

-- The source has tokens, which spell this tree within the limits.
pub record Spelled (source : List ℕ) (tree : UnitTree) : Type 0 where
  pub tokens : List Tok
  pub cut : Tokens source tokens
  pub spelled : SpellsUnit these tree tokens

-- The source spells this tree, which breaks no rule.
pub record Accepted (source : List ℕ) : Type 0 where
  pub tree : UnitTree
  pub spelled : Spelled source tree
  pub declared : broken tree ≡ []
  pub checked : broken_unit tree ≡ []
  pub owned : ownership.broken tree ≡ []

-- its functions and methods, with their names resolved
abbrev pub program_meant : {source : List ℕ} → Accepted source → resolved.Program
program_meant p = resolved_unit p.tree

-- what is seen of its meaning on an input, with a bound on the turns of each loop
abbrev pub meant : {source : List ℕ} → Accepted source → List ℕ → (bound : ℕ) → Observation
meant p input bound = meaning_seen (mean (program_meant p) input bound)
