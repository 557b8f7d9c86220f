-- Loops that read one thing more, whatever it is, and join it to what there is.
use Rattle.std.proofs.Common.{◌≡◌, ◌≤◌, List, [], ◌∷◌, ◌++◌, append_assoc, cond, ap, ◌∙◌}
pub use Rattle.std.proofs.Common.{length}
use Rattle.arc_lex.specs.declared.token.Token.{Token}
use Rattle.arc_lex.specs.Tokens.{Tok, toks}
use Rattle.arc_lex.specs.declared.mark.Mark.TheVariants.{Comma}
use Rattle.arc_form.specs.Kinds.{Kinds, mark}
use Rattle.arc_form.specs.Views.{all}
use Rattle.arc_form.specs.Reader.{Reader, ◌>>=◌, ret, sees, if_sees, take_one, from}
use Rattle.arc_form.specs.Form.{Limits, unlimited, map, many, run}
use Rattle.arc_form.specs.Operators.{fold}
use Rattle.arc_form.specs.Joining.{joining}
use Rattle.arc_form.proofs.Binding.{bind_twice, bind_alike, second_then}
use Rattle.arc_form.proofs.Joining.{push, fold_push, joining_is, joined_is}
use Rattle.arc_grammar.specs.Grammar.{Part, after_comma, commas, listed, reads, reads_free, reads_on, rules, these}
use Rattle.arc_grammar.proofs.Fits.{TakesToken, front}

-- These tokens are left of all; what reads all gives what now reads the rest.
pub record SoFar {A : Type 0} (tokens rest : List Token) (whole now : Reader A) : Type 0 where
  pub fewer : length rest ≤ length tokens
  pub same : whole (toks tokens) ≡ now (toks rest)

-- The same of a loop that begins with fewer tokens, since one thing at least was read before it.
pub record SoFarAfter {A : Type 0} (tokens first rest : List Token) (whole now : Reader A) : Type 0 where
  pub fewer : length rest ≤ length first
  pub same : whole (toks tokens) ≡ now (toks rest)

-- what a loop reads after what was made, and where each part is after a comma
abbrev pub row : {A T : Type 0} → Kinds → Part T → (A → T) → List A → Reader (List T)
row K part tree made = joining K (reads part) push (all tree made)

abbrev pub listed_row : {A T : Type 0} → Part T → (A → T) → List A → Reader (List T)
listed_row part = row (mark Comma) (after_comma part)

-- one more is joined, or there is none
pub one_more : {A B : Type 0} (T : Kinds) (part : Part A) (join : B → A → B) → TakesToken part → (b : B) (ts : List Tok) → joining T (reads part) join b ts ≡ if_sees T (reads part >>= (λ a. joining T (reads part) join (join b a))) (ret b) ts
one_more T part join t = joining_is T (reads part) join (front these part t.decided t.some)

-- and where no limit holds
pub one_more_free : {A B : Type 0} (T : Kinds) (part : Part A) (join : B → A → B) → TakesToken part → (b : B) (ts : List Tok)
    → joining T (reads_free part) join b ts ≡ if_sees T (reads_free part >>= (λ a. joining T (reads_free part) join (join b a))) (ret b) ts
one_more_free T part join t = joining_is T (reads_free part) join (front unlimited part t.decided t.some)

-- and the same where what is joined is given to what is there
pub one_more_on : {A B : Type 0} (T : Kinds) (part : Part A) (join : B → A → B) → TakesToken part → (b : B) (ts : List Tok)
    → reads_on (map (λ all left. fold join left all) (many T part)) b ts ≡ if_sees T (reads_free part >>= (λ a. reads_on (map (λ all left. fold join left all) (many T part)) (join b a))) (ret b) ts
one_more_on T part join t = joined_is T (reads_free part) join (front unlimited part t.decided t.some)

-- and where each is after a comma
pub one_more_listed : {A B : Type 0} (part : Part A) (join : B → A → B) → TakesToken (after_comma part) → (b : B) (ts : List Tok) → joining (mark Comma) (reads (after_comma part)) join b ts
    ≡ if_sees (mark Comma) (take_one (mark Comma) from >>= (λ comma. reads part >>= (λ a. joining (mark Comma) (reads (after_comma part)) join (join b a)))) (ret b) ts
unfolding after_comma
one_more_listed part join t b ts = one_more (mark Comma) (after_comma part) join t b ts
    ∙ ap (λ y. cond (sees (mark Comma) ts) y (ret b ts)) (second_then (take_one (mark Comma) from ts) (reads part) (λ a. joining (mark Comma) (reads (after_comma part)) join (join b a)))

-- one or more, with a comma between two: the first one, and then further ones
after_first : {T : Type 0} (limits : Limits) (part : Part T) (made : List T) (a : T) (us : List Tok) → (run rules limits (commas part) >>= (λ others. ret (made ++ a ∷ others))) us ≡ joining (mark Comma) (run rules limits (after_comma part)) push (push made a) us
unfolding commas
after_first limits part made a us = simp (fold_push, append_assoc)

listed_in : {T : Type 0} (limits : Limits) (part : Part T) (ts : List Tok) → run rules limits (listed part) ts ≡ (run rules limits part >>= (λ a. joining (mark Comma) (run rules limits (after_comma part)) push (a ∷ []))) ts
unfolding listed
listed_in limits part ts = simp bind_twice (bind_alike _ _ _ (λ a us. after_first limits part [] a us))

pub read_listed : {T : Type 0} (part : Part T) (ts : List Tok) → reads (listed part) ts ≡ (reads part >>= (λ a. joining (mark Comma) (reads (after_comma part)) push (a ∷ []))) ts
read_listed = listed_in these

-- and where no limit holds
pub read_listed_free : {T : Type 0} (part : Part T) (ts : List Tok) → reads_free (listed part) ts ≡ (reads_free part >>= (λ a. joining (mark Comma) (reads_free (after_comma part)) push (a ∷ []))) ts
read_listed_free = listed_in unlimited

-- and after these
pub listed_after : {T : Type 0} (part : Part T) (made : List T) (ts : List Tok) → (reads (listed part) >>= (λ others. ret (made ++ others))) ts ≡ (reads part >>= (λ a. joining (mark Comma) (reads (after_comma part)) push (push made a))) ts
unfolding listed
listed_after part made ts = simp bind_twice (bind_alike _ _ _ (λ a us. after_first these part made a us))
