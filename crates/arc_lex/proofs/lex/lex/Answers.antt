use Rattle.std.proofs.Common.{◌≡◌, ◌∷◌, ◌+◌, ℕ, length, List, [], ◌++◌, drop, Bool, true, false, Some, None, refl, sym, ap, subst, ◌∙◌, arith}
use Rattle.std.proofs.lemmas.List.{append-nil}
use Rattle.arc_lex.specs.Faults.{fault_of, IsFirst, IsLexFault}
use Rattle.arc_lex.specs.private.Pieces.{Law, Blank, Skip, Whole, Broken, piece}
use Rattle.arc_lex.specs.Source.{Cuts, done, breaks}
use Rattle.arc_lex.specs.Tokens.{tok, toks, sort_of}
use Rattle.arc_lex.specs.declared.piece.Rule.{Rule}
use Rattle.arc_lex.specs.declared.piece.Rule.TheVariants as rules
use Rattle.arc_lex.specs.declared.token.Span.{Span}
use Rattle.arc_lex.specs.declared.token.Token.{Token}
use Rattle.arc_lex.proofs.Law.{piece_law}
use Rattle.arc_lex.proofs.OneAnswer.{only_tokens, only_fault}
use Rattle.arc_lex.proofs.Spans.{spans_spell}
use Rattle.arc_lex.proofs.Walks.{blank_cuts, skip_cuts, token_cuts, toks_push}
use Rattle.arc_lex.proofs.lex.lex.Goals as goal

space_law : (starts : Bool) (bs : List ℕ) → Law starts (32 ∷ bs) (Blank false)
unfolding piece
space_law starts bs = piece_law starts (32 ∷ bs) (omega arith)

pub pieces-preserved-in-Some : goal.pieces-preserved-in-Some
pieces-preserved-in-Some c =
    let at = c.pieces.at in
    let starts = c.pieces.starts in
    let rest = c.pieces.rest.now in
    let front : rest ≡ 32 ∷ c.in-Some.after.now = rw c.in-Some.is at c.after_space.ensures in
    let law : Law starts rest (Blank false) = subst (λ us. Law starts us (Blank false)) (sym front) (space_law starts c.in-Some.after.now) in
    let back : c.in-Some.after.now ≡ drop 1 rest = sym (ap (drop 1) front) in
    record {
      short = c.pieces.invariant.short;
      count = omega (arith, ap length front, c.pieces.invariant.count);
      cut = λ ts broken h. c.pieces.invariant.cut ts broken (blank_cuts at starts rest c.in-Some.after.now ts broken false law back h);
    }

pub pieces-preserved-in-Blank : goal.pieces-preserved-in-Blank
pieces-preserved-in-Blank c =
    let at = c.pieces.at in
    let starts = c.pieces.starts in
    let newline = c.in-Blank.newline in
    let rest = c.pieces.rest.now in
    let law : Law starts rest (Blank newline) = rw c.in-Blank.is at c.in_ok-newline.ensures.law in
    let back = c.split_at.ensures.back in
    record {
      short = c.pieces.invariant.short;
      count = omega (arith, c.split_at.ensures.back_len, c.pieces.invariant.count);
      cut = λ ts broken h. c.pieces.invariant.cut ts broken (blank_cuts at starts rest _ ts broken newline law back h);
    }

pub pieces-preserved-in-Skip : goal.pieces-preserved-in-Skip
pieces-preserved-in-Skip c =
    let at = c.pieces.at in
    let n = c.in-Skip.n in
    let rest = c.pieces.rest.now in
    let law : Law c.pieces.starts rest (Skip n) = rw c.in-Skip.is at c.in_ok-newline.ensures.law in
    let back = c.split_at-in-Skip.ensures.back in
    record {
      short = c.pieces.invariant.short;
      count = omega (arith, c.split_at-in-Skip.ensures.back_len, c.pieces.invariant.count);
      cut = λ ts broken h. c.pieces.invariant.cut ts broken (skip_cuts at c.pieces.starts rest _ ts broken n back h law);
    }

pub pieces-preserved : goal.pieces-preserved
pieces-preserved c =
    let at = c.pieces.at in
    let starts = c.pieces.starts in
    let n = c.in-Whole.n in
    let kind = c.in-Whole.kind in
    let rest = c.pieces.rest.now in
    let law : Law starts rest (Whole (sort_of kind) n) = rw c.in-Whole.is at c.in_ok-newline.ensures.law in
    let back = c.split_at-in-Whole.ensures.back in
    let span : Span = record { from = at; to = at + n } in
    let t : Token = record { kind = kind; span = span } in
    record {
      short = c.pieces.invariant.short;
      count = omega (arith, c.split_at-in-Whole.ensures.back_len, c.pieces.invariant.count);
      cut = λ ts broken h. subst (λ us. Cuts 0 true c.args.source.now us broken) (sym (ap (λ us. toks us ++ ts) c.in_ok-push-in-Whole.ensures.items ∙ toks_push c.pieces.tokens.items t ts))
          (c.pieces.invariant.cut (tok t ∷ ts) broken (token_cuts at starts rest _ ts broken n back h (sort_of kind) law));
    }

first_fault : (source : List ℕ) (at : ℕ) (rule : Rule) → IsFirst source at rule → IsLexFault source (fault_of rule at)
first_fault source at rules.BadByte h = h
first_fault source at rules.OpenComment h = h
first_fault source at rules.OpenLiteral h = h
first_fault source at rules.Literal h = h
first_fault source at rules.Directive h = h

pub returns-in-Broken-clause-fault : goal.returns-in-Broken-clause-fault
returns-in-Broken-clause-fault c =
    let at = c.pieces.at in
    let rule = c.in-Broken.rule in
    let law : Law c.pieces.starts c.pieces.rest.now (Broken rule) = rw c.in-Broken.is at c.in_ok-newline.ensures.law in
    let cut = c.pieces.invariant.cut [] (Some (at, rule)) (breaks at c.pieces.starts c.pieces.rest.now rule law) in
    subst (IsLexFault c.args.source.now) (sym c.fault_of.ensures) (first_fault c.args.source.now at rule (_, c.pieces.invariant.short, cut))

empty : (rest : List ℕ) → length rest ≡ 0 → rest ≡ []
empty [] e = refl
empty (b ∷ rest) e = absurd (omega arith)

pub returns-clause-tokens : goal.returns-clause-tokens
returns-clause-tokens c =
    let none : c.pieces.rest.now ≡ [] = empty c.pieces.rest.now (omega (arith, c.pieces.invariant.count)) in (
      c.pieces.invariant.short,
      subst (λ us. Cuts 0 true c.args.source.now us None) (append-nil (toks c.pieces.tokens.items))
          (c.pieces.invariant.cut [] None (subst (λ us. Cuts c.pieces.at c.pieces.starts us [] None) (sym none) (done c.pieces.at c.pieces.starts))),
    )

pub returns-in-Broken-clause-only_fault : goal.returns-in-Broken-clause-only_fault
returns-in-Broken-clause-only_fault c = only_fault c.args.source.now c.fault_of.result (returns-in-Broken-clause-fault c)

pub returns-clause-only_tokens : goal.returns-clause-only_tokens
returns-clause-only_tokens c = only_tokens c.args.source.now (toks c.pieces.tokens.items) (returns-clause-tokens c)

pub returns-clause-spans : goal.returns-clause-spans
returns-clause-spans c = spans_spell c.args.source.now (toks c.pieces.tokens.items) (returns-clause-tokens c)
