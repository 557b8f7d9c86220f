use Rattle.std.proofs.Common.{◌≡◌, ℕ, suc, ◌+◌, ◌-◌, ◌<◌, Option, List, length, take, drop, arith, take-add}
use Rattle.std.specs.Io.KnownBytes.{Appends}
use Rattle.std.proofs.lemmas.List.{take_rest}
use Rattle.std.proofs.KnownBytes.{Appends-trans}
use Rattle.arc_code.specs.declared.device.Attempt.{Attempt}
use Rattle.arc_code.specs.declared.device.Attempt.TheVariants.{Done}
use Rattle.arc_code.specs.Attempts.{Tried, Took}
use Rattle.arc_code.proofs.counted.Counted.put_all.Goals as goal

-- one more write, which was offered all that were left
module _ (bytes : List ℕ) (n m : ℕ) where
  appends_on : (h0 h1 h2 : Option (List ℕ)) → Appends h0 h1 (take n bytes) → Appends h1 h2 (take m (take (length bytes - n) (drop n bytes))) → Appends h0 h2 (take (n + m) bytes)
  appends_on h0 h1 h2 first more = search (arith, take-add, Appends-trans, take_rest)

  took_on : {T : Type 0} (writes : List ℕ → T → Attempt ℕ → T → Type 0) (t0 t1 t2 : T) → 0 < m → Took writes bytes t0 n t1 → Tried (writes (take (length bytes - n) (drop n bytes))) t1 (Done m) t2 → Took writes bytes t0 (n + m) t2
  took_on {T} writes t0 t1 t2 some (times, takings) tried =
      let one : suc (m - 1) ≡ m = omega (arith, some) in
      (suc times, (t1, n, m - 1, omega arith, takings, search (arith, one, take_rest)))

pub loop-written-preserved : goal.loop-written-preserved
loop-written-preserved g c =
    let e = c.in-Ok.ensures in
    search (arith, appends_on c.args.bytes.now c.loop-written.written c.in-Ok.taken, took_on c.args.bytes.now c.loop-written.written c.in-Ok.taken g.W.Output.writes, e.within, e.fine, e.end, e.ok, e.wrote, c.loop-written.invariant)
