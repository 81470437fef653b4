use Rattle.std.proofs.lemmas.Result.{err_from_is_err_and}
use Rattle.element_lang.specs.View.{tree}
use Rattle.gallium_cli.proofs.Written.{made_broken, made_summary}
use Rattle.gallium_cli.proofs.generated.summary.Goals as goal

pub returns-clause-ok : goal.returns-clause-ok
returns-clause-ok g c =
    let split = c.in_ok-middlebox.middlebox in
    let made = c.in_ok-packets.ensures in
    made_summary c.in_ok-text.text c.args.seed c.args.count.packets (tree split.program.middlebox) split.split split.writeback
    c.in_ok-packets.packets c.in_ok-packets.plan c.in_ok-told.told
    (g.S.SwitchPort.seen c.args.port.now) (g.S.SwitchPort.seen c.replayed.new.port)
    c.in_ok-middlebox.ensures.ok made.packets made.plan c.in_ok-text.ensures c.in_ok-told.ensures.ok

pub returns-in_err-told-clause-broken : goal.returns-in_err-told-clause-broken
returns-in_err-told-clause-broken g c =
    let p = err_from_is_err_and c.from_residual-in_err-told.result c.from_residual-in_err-told.ensures.1 in
    let split = c.in_ok-middlebox.middlebox in
    let made = c.in_ok-packets.ensures in
    rw (p.1, p.2)
    (λ failed. made_broken c.args.seed c.args.count.packets (tree split.program.middlebox) split.split split.writeback
    c.in_ok-packets.packets c.in_ok-packets.plan (g.S.SwitchPort.seen c.args.port.now) (g.S.SwitchPort.seen c.replayed.new.port)
    c.in_ok-middlebox.ensures.ok made.packets made.plan (c.in_err-told.ensures.broken failed))
