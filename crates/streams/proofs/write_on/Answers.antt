use Rattle.std.proofs.Common.{rules, ◌≡◌, ◌≤◌, ◌+◌, ◌-◌, length, take, drop, subst}
use native.Mathlib.Omega.{arith}
use lib.ListN.{length-drop}
use lib.Seq.{take_all}
use Rattle.std.specs.Io.KnownBytes.{Appends}
use Rattle.std.proofs.KnownBytes.{Appends-trans}
use Rattle.streams.proofs.Answers.{take-on}
use Rattle.streams.proofs.write_on.Goals as goal

pub loop-done-preserved-in-Bytes : goal.loop-done-preserved-in-Bytes
loop-done-preserved-in-Bytes g c =
    let (before, out) = c.loop-done.invariant in
    let bytes = c.args.bytes.now in
    let done = c.loop-done.done in
    let n = c.in-Bytes.n in
    let rest = take (length bytes - done) (drop done bytes) in
    let room : done + n ≤ length bytes = search rules in
    let took : Appends (g.W.Write.contents c.loop-done.writer) (g.W.Write.contents c.write_once.new.writer) (take n rest) = search rules in
    let same : rest ≡ drop done bytes = take_all (length bytes - done) (drop done bytes) (omega (arith, length-drop done bytes)) in
    let more = Appends-trans _ _ _ (take done bytes) (take n (drop done bytes)) out (rw same at took) in
    (room, subst (Appends _ _) (take-on done n bytes before) more)
