use Rattle.std.proofs.Common.{◌≡◌, ℕ, ◌<◌, List, length, Bool, sym, subst, Result, Ok, Err, IfOk}
use Rattle.std.specs.declared.alloc.AllocError.{AllocError}
use Rattle.arc_lex.specs.private.Pieces.{Law, Fits, piece, seen}
use Rattle.arc_lex.specs.declared.piece.Piece.{Piece}
use Rattle.arc_lex.proofs.Law.{piece_law}
use Rattle.arc_lex.proofs.Walks.{law_fits}
use Rattle.arc_lex.proofs.piece.lawful_piece.Goals as goal

lawful : (starts : Bool) (bytes : List ℕ) (r : Result Piece AllocError) → 0 < length bytes → IfOk r (λ p. seen p ≡ piece starts bytes) → IfOk r (λ p. Law starts bytes (seen p))
lawful starts bytes (Ok p) some h = subst (Law starts bytes) (sym h) (piece_law starts bytes some)
lawful starts bytes (Err e) some h = tt

fitting : (starts : Bool) (bytes : List ℕ) (r : Result Piece AllocError) → IfOk r (λ p. Law starts bytes (seen p)) → IfOk r (λ p. Fits (seen p) (length bytes))
fitting starts bytes (Ok p) h = law_fits starts bytes (seen p) h
fitting starts bytes (Err e) h = tt

pub returns : goal.returns
returns c =
    let law = lawful c.args.starts c.args.bytes.now c.next_piece.result c.requires c.next_piece.ensures.value in
    record { law = law; fits = fitting c.args.starts c.args.bytes.now c.next_piece.result law }
