-- `writing::Pen::put_digits`: the number falls at each call.
use Rattle.writing.proofs.Pen.+put_digits.Given as goal

abbrev pub decreases-put_digits : goal.decreases-put_digits
decreases-put_digits l = l.n
