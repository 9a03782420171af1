use Rattle.std.proofs.Common.{rules, ◌≤◌, ◌-◌, length, take, subst}
use Rattle.std.specs.Io.KnownBytes.{Consumes}
use Rattle.std.proofs.KnownBytes.{Consumes-trans}
use Rattle.streams.proofs.Answers.{read-on}
use Rattle.streams.proofs.read_whole.Goals as goal

pub loop-done-preserved-in-Bytes : goal.loop-done-preserved-in-Bytes
loop-done-preserved-in-Bytes g c =
    let (before, long, given) = c.loop-done.invariant in
    let buf = c.loop-done.buf in
    let done = c.loop-done.done in
    let n = c.in-Bytes.n in
    let rest = c.read_once.new.rest in
    let few : n ≤ length rest = search rules in
    let took : Consumes (g.R.Read.remaining c.loop-done.reader) (g.R.Read.remaining c.read_once.new.reader) (take n rest) = search rules in
    let more = Consumes-trans _ _ _ (take done buf) (take n rest) given took in
    (search rules, search rules, subst (Consumes _ _) (read-on done (length buf - done) n buf rest before few) more)
