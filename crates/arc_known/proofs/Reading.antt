-- A source is taken through its tokens and its tree to its meaning by computing them.
use Rattle.std.proofs.Common.{◌≡◌, ◌≤◌, ℕ, suc, List, [], ◌∷◌, length, true, nat_le, Option, Some, None, Ok, Err, refl, ap, subst, ◌∙◌}
use Rattle.std.proofs.lemmas.Bool.{leb-true}
use Rattle.std.specs.Fmt.{digits}
use Rattle.arc_lex.specs.Faults as lexing
use Rattle.arc_lex.specs.Faults.{fault_of}
use Rattle.arc_lex.specs.Source.{Tokens}
use Rattle.arc_lex.specs.Tokens.{Tok}
use Rattle.arc_lex.specs.private.Pieces.{piece, name_piece, number_piece, text_piece, character_piece, at_piece, line_piece, slash_piece, mark_piece}
use Rattle.arc_ast.specs.Tree.{UnitTree}
use Rattle.arc_form.specs.Form.{read, deep}
use Rattle.arc_form.specs.Reader.{Read, misfit, too_deep, loop, allowed, nested, up_to}
use Rattle.arc_form.specs.Whole.{read_whole}
use Rattle.arc_grammar.specs.Grammar.{body, unit, these}
use Rattle.arc_grammar.proofs.Fits.{lines}
use Rattle.arc_fault.specs.declared.parse.ParseFault.TheVariants.{Unexpected, TooDeep}
use Rattle.arc_fault.specs.Parse.{report}
use Rattle.arc_parse.specs.Refusal.{place_of}
use Rattle.arc_parse.proofs.Unit.{within, refused as unfit, too_deep_at}
use Rattle.arc_sites.specs.declared.violation.Violation.{Violation}
use Rattle.arc_class.specs.ClassRules.{broken}
use Rattle.arc_judge.specs.Rules.{broken_unit}
use Rattle.arc_resolve.specs.SourceResolution.{resolved_unit}
use Rattle.arc_family.specs.Rules as ownership
use Rattle.arc_spec.specs.Families.{without_underscores, first_component, begins_with_word}
use Rattle.arc_spec.specs.declared.event.Event.{Event}
use Rattle.arc_spec.specs.Correctness.{Observation, Stop, meaning_seen}
use Rattle.arc_spec.specs.Meaning.{mean}
use Rattle.arc_source.specs.Accepted.{Spelled}
use Rattle.arc_known.specs.Known.{HasTrace, IsRefused, in_tokens, in_tree, in_depth, in_rules, reported}
use Rattle.arc_known.proofs.Cutting.{Found, too_many, in_pieces, found_in, cuts}
use Rattle.arc_lex.specs.declared.lex.TheConstants.{MOST_BYTES}

-- `unfolding reading` opens what the computing of a tree and its meaning calls
unfoldable pub reading : Unit {0}
unfolding lines read deep read_whole loop allowed nested up_to piece name_piece number_piece text_piece character_piece at_piece line_piece slash_piece mark_piece digits without_underscores first_component begins_with_word
reading = tt

abbrev pub tree_read : Read UnitTree → Option UnitTree
tree_read (Ok x) = Some x.0
tree_read (Err e) = None

abbrev pub tree_in : Found → Option UnitTree
tree_in too_many = None
tree_in (in_pieces ts None) = tree_read (read_whole body these unit ts)
tree_in (in_pieces ts (Some fault)) = None

-- the tree that a source spells
abbrev pub tree_of : List ℕ → Option UnitTree
tree_of source = tree_in (found_in (suc (length source)) 0 true source)

spelled : (source : List ℕ) (tree : UnitTree) → nat_le (length source) MOST_BYTES ≡ true → tree_of source ≡ Some tree → Spelled source tree
spelled source tree short e = from_found (found_in (suc (length source)) 0 true source) refl e
  where
    from_tree : (ts : List Tok) (x : Read UnitTree) → read_whole body these unit ts ≡ x → tree_read x ≡ Some tree → (r : List Tok) × (read_whole body these unit ts ≡ Ok (tree, r))
    from_tree ts (Ok x) k f = let same : x.0 ≡ tree = cc in (x.1, k ∙ ap (λ u. Ok (u, x.1)) same)
    from_tree ts (Err x) k f = cc

    from_found : (found : Found) → found_in (suc (length source)) 0 true source ≡ found → tree_in found ≡ Some tree → Spelled source tree
    from_found too_many k f = cc
    from_found (in_pieces ts (Some fault)) k f = cc
    from_found (in_pieces ts None) k f =
        let whole = from_tree ts (read_whole body these unit ts) refl f in
        record { tokens = ts; cut = (leb-true (length source) MOST_BYTES short, cuts (suc (length source)) 0 true source ts None k); spelled = within ts tree whole.0 whole.1 }

-- what is seen of a tree's meaning, where it breaks no rule
abbrev pub unless_broken : (declared checked owned : List Violation) → Observation → Option Observation
unless_broken [] [] [] seen = Some seen
unless_broken _ _ _ seen = None

abbrev pub seen_in : (input : List ℕ) (turns : ℕ) → Option UnitTree → Option Observation
seen_in input turns None = None
seen_in input turns (Some tree) = unless_broken (broken tree) (broken_unit tree) (ownership.broken tree) (meaning_seen (mean (resolved_unit tree) input turns))

unbroken : (a b c : List Violation) (seen s : Observation) → unless_broken a b c seen ≡ Some s → (a ≡ []) × (b ≡ []) × (c ≡ []) × (seen ≡ s)
unbroken [] [] [] seen s e = let same : seen ≡ s = cc in (refl, refl, refl, same)
unbroken [] [] (x ∷ c) seen s e = cc
unbroken [] (x ∷ b) c seen s e = cc
unbroken (x ∷ a) b c seen s e = cc

-- what is computed of a source is what its definition says
pub known : (source input : List ℕ) (turns : ℕ) (events : List Event) (stop : Stop) → nat_le (length source) MOST_BYTES ≡ true
    → seen_in input turns (tree_of source) ≡ Some (record { trace = events; stop = Some stop }) → HasTrace source input turns events stop
known source input turns events stop short e = go (tree_of source) refl e
  where
    go : (found : Option UnitTree) → tree_of source ≡ found → seen_in input turns found ≡ Some (record { trace = events; stop = Some stop }) → HasTrace source input turns events stop
    go None k f = cc
    go (Some tree) k f =
        let clear = unbroken (broken tree) (broken_unit tree) (ownership.broken tree) (meaning_seen (mean (resolved_unit tree) input turns)) _ f in
        record { program = record { tree = tree; spelled = spelled source tree short k; declared = clear.0; checked = clear.1; owned = clear.2 }; shows = clear.3 }

-- ---- sources that are refused

abbrev pub violation_at : (number at : ℕ) → Option Violation
violation_at number at = Some (record { at = at; number = number })

abbrev pub of_read : List Tok → Read UnitTree → Option Violation
of_read ts (Ok x) = reported x.0
of_read ts (Err (misfit, rest)) = violation_at (report (Unexpected 0)).number (place_of ts rest)
of_read ts (Err (too_deep, rest)) = violation_at (report (TooDeep 0)).number (place_of ts rest)

abbrev pub of_found : Found → Option Violation
of_found too_many = None
of_found (in_pieces ts None) = of_read ts (read_whole body these unit ts)
of_found (in_pieces ts (Some (place, rule))) = violation_at ((lexing.report (fault_of rule place)).0) place

-- the rule by which a source is refused, and the position
abbrev pub refusal : List ℕ → Option Violation
refusal source = of_found (found_in (suc (length source)) 0 true source)

abbrev number_in : Option Violation → ℕ
number_in None = 0
number_in (Some v) = v.number

abbrev at_in : Option Violation → ℕ
at_in None = 0
at_in (Some v) = v.at

module _ (source : List ℕ) (number at : ℕ) (short : length source ≤ MOST_BYTES) where
  by_misfit : (ts rest : List Tok) → Tokens source ts → read_whole body these unit ts ≡ Err (misfit, rest) → violation_at (report (Unexpected 0)).number (place_of ts rest) ≡ violation_at number at
      → IsRefused source number at
  by_misfit ts rest cut k e = subst (IsRefused source number) (ap at_in e) (in_tree ts cut (unfit ts rest k) (ap number_in e))

  by_depth : (ts rest : List Tok) → Tokens source ts → read_whole body these unit ts ≡ Err (too_deep, rest) → violation_at (report (TooDeep 0)).number (place_of ts rest) ≡ violation_at number at
      → IsRefused source number at
  by_depth ts rest cut k e = subst (IsRefused source number) (ap at_in e) (in_depth ts cut (too_deep_at ts rest k) (ap number_in e))

  by_read : (ts : List Tok) → Tokens source ts → (x : Read UnitTree) → read_whole body these unit ts ≡ x → of_read ts x ≡ violation_at number at → IsRefused source number at
  by_read ts cut (Ok x) k e = in_rules x.0 (record { tokens = ts; cut = cut; spelled = within ts x.0 x.1 k }) e
  by_read ts cut (Err (misfit, rest)) k e = by_misfit ts rest cut k e
  by_read ts cut (Err (too_deep, rest)) k e = by_depth ts rest cut k e

  by_found : (found : Found) → found_in (suc (length source)) 0 true source ≡ found → of_found found ≡ violation_at number at → IsRefused source number at
  by_found too_many k e = cc
  by_found (in_pieces ts None) k e = by_read ts (short, cuts (suc (length source)) 0 true source ts None k) (read_whole body these unit ts) refl e
  by_found (in_pieces ts (Some (place, rule))) k e =
      subst (IsRefused source number) (ap at_in e) (in_tokens rule (ts, short, cuts (suc (length source)) 0 true source ts (Some (place, rule)) k) (ap number_in e))

pub refused : (source : List ℕ) (number at : ℕ) → nat_le (length source) MOST_BYTES ≡ true → refusal source ≡ violation_at number at → IsRefused source number at
refused source number at short e = by_found source number at (leb-true (length source) MOST_BYTES short) (found_in (suc (length source)) 0 true source) refl e
