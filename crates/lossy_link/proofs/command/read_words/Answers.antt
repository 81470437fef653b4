use Rattle.std.proofs.Common.{◌≡◌, ◌^◌, ◌+◌, ℕ, List, true, get_or, sym, subst, arith}
use Rattle.std.specs.Prelude.{nat_lt}
use Rattle.lossy_link.proofs.Spelled.{IsRead, read_all, read_length, read_more, read_once}
use Rattle.lossy_link.proofs.command.read_words.Goals as goal

pub loop-i-preserved : goal.loop-i-preserved
loop-i-preserved c =
    let widths = c.args.widths.now in
    let n = c.number_at-number.result in
    let fits : nat_lt n (2 ^ get_or widths c.loop-i.i 0) ≡ true = subst (λ (k : ℕ). nat_lt n (2 ^ k) ≡ true) c.at.ensures (sym c.if-not-fits.ensures) in
    subst (λ (ns : List ℕ). IsRead widths ns c.args.bytes.now (c.loop-i.i + 1)) (sym c.push.ensures)
    (read_more widths c.loop-i.numbers c.args.bytes.now c.loop-i.i n c.loop-i.invariant (omega arith) (omega arith) fits c.number_at-number.ensures)

pub returns-clause-read_back : goal.returns-clause-read_back
returns-clause-read_back c numbers s =
    let widths = c.args.widths.now in
    let long = read_length widths numbers c.args.bytes.now s in
    read_once widths c.loop-i.numbers numbers c.args.bytes.now
    (read_all widths c.loop-i.numbers c.args.bytes.now c.loop-i.i c.loop-i.invariant (omega arith) long) s
