-- Reserved words are kept apart by how they are written.
use Rattle.std.proofs.Common.{◌≡◌, ℕ, List, Some, Bool, true, false, refl}
use Rattle.std.specs.Str.{bytes_eq}
use denote.Enum.Bare.{sameb}
use Rattle.arc_lex.specs.declared.word.Word.{Word}
use Rattle.arc_lex.specs.declared.word.TheConstants.{WORDS}
use Rattle.arc_lex.specs.contracts.word.Word.{the_type}
use Rattle.arc_lex.specs.Spellings.{word_bytes}
use Rattle.arc_lex.proofs.Tables.{nth, all_pass, passes}
use Rattle.arc_lex.proofs.Marks.{word_stands}

abbrev agree : Bool → Bool → Bool
agree true b = b
agree false true = false
agree false false = true

agree_is : (a b : Bool) → agree a b ≡ true → a ≡ b
agree_is true true e = refl
agree_is true false e = cc
agree_is false true e = cc
agree_is false false e = refl

-- a test that any two of some words pass
of_two : {A : Type 0} (those : List A) (test : A → A → Bool) (n m : ℕ) (a b : A) → nth n those ≡ Some a → nth m those ≡ Some b
    → all_pass (λ x. all_pass (test x) those) those ≡ true → test a b ≡ true
of_two those test n m a b e f h = passes (test a) those m b (passes (λ x. all_pass (test x) those) those n a h e) f

abbrev alike : Word → Word → Bool
alike a b = agree (sameb the_type a b) (bytes_eq (word_bytes a) (word_bytes b))

pub word_alike : (a b : Word) → sameb the_type a b ≡ bytes_eq (word_bytes a) (word_bytes b)
word_alike a b =
    agree_is (sameb the_type a b) (bytes_eq (word_bytes a) (word_bytes b)) (of_two WORDS alike (word_stands a).0 (word_stands b).0 a b (word_stands a).1 (word_stands b).1 refl)
