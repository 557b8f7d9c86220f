-- Runs of plain bytes as pieces, and what is printed by the first parts of a format.
use Rattle.std.proofs.Common.{◌≡◌, ℕ, List, [], ◌∷◌, ◌++◌, length, ◌<◌, arith, append_assoc, refl, sym, ap, ◌∙◌}
use Rattle.arc_spec.specs.Resolved as resolved
use Rattle.arc_scope.specs.declared.format.Begun.{Begun}
use Rattle.arc_scope.specs.declared.format.Begun.TheVariants as b
use Rattle.arc_scope.specs.declared.format.Part.{Part}
use Rattle.arc_scope.specs.declared.format.Part.TheVariants as p
use Rattle.arc_checked.specs.declared.program.Piece.{Piece}
use Rattle.arc_checked.specs.Checked as checked
use Rattle.arc_scope.specs.Formats.{put_byte, printed, unfinished}
use Rattle.arc_resolve.specs.private.PlainByteRuns.{put_bytes, run_piece}

pub pieces-append : (xs ys : List Piece) → checked.pieces (xs ++ ys) ≡ checked.pieces xs ++ checked.pieces ys
pieces-append [] ys = refl
pieces-append (x ∷ xs) ys = ap (λ all. checked.piece x ∷ all) (pieces-append xs ys)

pub put_bytes-push : (run : List ℕ) (byte : ℕ) (others : List resolved.Piece) → put_bytes (run ++ byte ∷ []) others ≡ put_bytes run (put_byte byte others)
put_bytes-push [] byte others = refl
put_bytes-push (first ∷ run) byte others = ap (put_byte first) (put_bytes-push run byte others)

pub put_bytes-decimal : (run : List ℕ) (others : List resolved.Piece) → put_bytes run (resolved.Decimal ∷ others) ≡ run_piece run ++ resolved.Decimal ∷ others
put_bytes-decimal [] others = refl
put_bytes-decimal (first ∷ []) others = refl
put_bytes-decimal (first ∷ second ∷ run) others = ap (put_byte first) (put_bytes-decimal (second ∷ run) others)

pub put_bytes-character : (run : List ℕ) (others : List resolved.Piece) → put_bytes run (resolved.Character ∷ others) ≡ run_piece run ++ resolved.Character ∷ others
put_bytes-character [] others = refl
put_bytes-character (first ∷ []) others = refl
put_bytes-character (first ∷ second ∷ run) others = ap (put_byte first) (put_bytes-character (second ∷ run) others)

pub put_bytes-end : (run : List ℕ) → put_bytes run [] ≡ run_piece run
put_bytes-end [] = refl
put_bytes-end (first ∷ []) = refl
put_bytes-end (first ∷ second ∷ run) = ap (put_byte first) (put_bytes-end (second ∷ run))

pub unfinished_prints : (begun : Begun) → printed (unfinished begun) ≡ []
unfinished_prints b.Nothing = refl
unfinished_prints b.Percent = refl
unfinished_prints b.PercentL = refl
unfinished_prints b.PercentLL = refl

-- ---- one part more

pub run_is_piece : (run : List ℕ) → 0 < length run → resolved.Bytes run ∷ [] ≡ run_piece run
run_is_piece [] h = absurd (omega arith)
run_is_piece (byte ∷ run) h = refl

pub adds_plain : (all : List resolved.Piece) (run new : List ℕ) (byte : ℕ) (part : Part) (others : List Part) → part ≡ p.Plain byte → new ≡ run ++ byte ∷ []
    → all ++ put_bytes new (printed others) ≡ all ++ put_bytes run (printed (part ∷ others))
adds_plain all run new byte part others e n = rw (e, n, put_bytes-push run byte (printed others)) refl

pub adds_piece : (old mid new : List resolved.Piece) (run mid_run : List ℕ) (piece : resolved.Piece) (others : List resolved.Piece)
    → mid ≡ old ++ run_piece run → new ≡ mid ++ piece ∷ [] → mid_run ≡ [] → put_bytes run (piece ∷ others) ≡ run_piece run ++ piece ∷ others
    → new ++ put_bytes mid_run others ≡ old ++ put_bytes run (piece ∷ others)
adds_piece old mid new run mid_run piece others m n r e = rw (n, m, r, e) (simp append_assoc)

pub all_printed : (old new : List resolved.Piece) (run : List ℕ) (begun : Begun) (whole : List resolved.Piece) → new ≡ old ++ run_piece run → whole ≡ old ++ put_bytes run (printed (unfinished begun)) → new ≡ whole
all_printed old new run begun whole n w = n ∙ ap (λ all. old ++ all) (sym (put_bytes-end run)) ∙ ap (λ all. old ++ put_bytes run all) (sym (unfinished_prints begun)) ∙ sym w
