use Rattle.std.proofs.Common.{map, refl}
use Rattle.std.proofs.lemmas.Result.{err_from_is_err_and}
use Rattle.element_lang.specs.View.{tree}
use Rattle.gallium_cli.specs.Words.{Chain}
use Rattle.gallium_cli.proofs.Chained.{chain_answer, chain_read, chain_reads, class_ended, classes_read, uncomposed_ended, wiring_ended}
use Rattle.gallium_cli.proofs.Written.{put_ended}
use Rattle.gallium_cli.proofs.chain.perform_chain.Goals as goal

pub returns-in_err-chain : goal.returns-in_err-chain
returns-in_err-chain g c = λ port.
    let p = err_from_is_err_and c.from_residual.result c.from_residual.ensures.1 in
    let none = c.in_err-chain.ensures in
    rw (p.1, p.2)
    (wiring_ended _ c.args.wiring.now (g.F.Files.seen c.args.files.now) (g.F.Files.seen c.load.new.files) port
    (g.O.Sink.seen c.args.out.now) none.err none.read none.fault)

pub returns-in-Err : goal.returns-in-Err
returns-in-Err g c = λ port.
    let told = c.in_ok-chain.ensures in
    let none = c.in-Err.ensures in
    let read = chain_read c.args.wiring.now c.in_ok-chain.chain (g.F.Files.seen c.args.files.now)
    (g.F.Files.seen c.load.new.files) told.ok told.stays told.read in
    class_ended c.in-Err.refusal c.args.wiring.now c.in_ok-chain.chain c.as_slice.result.now (g.F.Files.seen c.args.files.now)
    (g.F.Files.seen c.load.new.files) (g.F.Files.seen c.load_classes.new.files) port (g.O.Sink.seen c.args.out.now) read
    c.as_slice.ensures none.err c.load_classes.ensures.few_reads none.fault

pub returns-in-Err-composed : goal.returns-in-Err-composed
returns-in-Err-composed g c = λ port.
    let told = c.in_ok-chain.ensures in
    let found = c.in-Ok.ensures in
    let read = chain_read c.args.wiring.now c.in_ok-chain.chain (g.F.Files.seen c.args.files.now)
    (g.F.Files.seen c.load.new.files) told.ok told.stays told.read in
    let all = classes_read c.args.wiring.now c.in_ok-chain.chain c.as_slice.result.now (map tree c.in-Ok.classes.items)
    (g.F.Files.seen c.args.files.now) (g.F.Files.seen c.load.new.files) (g.F.Files.seen c.load_classes.new.files) read
    c.as_slice.ensures found.ok found.stays found.read in
    uncomposed_ended c.in-Err-composed.refusal c.args.wiring.now c.in_ok-chain.chain (map tree c.in-Ok.classes.items)
    (g.F.Files.seen c.args.files.now) (g.F.Files.seen c.load_classes.new.files) port (g.O.Sink.seen c.args.out.now) all
    c.in-Err-composed.ensures.err

pub returns : goal.returns
returns g c = λ port.
    let told = c.in_ok-chain.ensures in
    let found = c.in-Ok.ensures in
    let read = chain_read c.args.wiring.now c.in_ok-chain.chain (g.F.Files.seen c.args.files.now)
    (g.F.Files.seen c.load.new.files) told.ok told.stays told.read in
    let all = classes_read c.args.wiring.now c.in_ok-chain.chain c.as_slice.result.now (map tree c.in-Ok.classes.items)
    (g.F.Files.seen c.args.files.now) (g.F.Files.seen c.load.new.files) (g.F.Files.seen c.load_classes.new.files) read
    c.as_slice.ensures found.ok found.stays found.read in
    put_ended _ (Chain c.args.wiring.now) c.as_slice-2.result.now (g.F.Files.seen c.args.files.now)
    (g.F.Files.seen c.load_classes.new.files) port port (g.O.Sink.seen c.args.out.now) (g.O.Sink.seen c.put.new.out)
    (chain_answer _ _ _ _ c.as_slice-2.result.now _ (g.F.Files.seen c.load_classes.new.files) port port all
    c.in-Ok-composed.ensures.ok c.as_slice-2.ensures)
    (chain_reads _ _ _ _ _ all) all.goes refl refl c.put.ensures.ok c.put.ensures.err
