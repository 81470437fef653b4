use Rattle.std.proofs.Common.{◌≡◌, IfOk, subst}
use Rattle.element_lang.specs.Surface as surface
use Rattle.element_rules.specs.declared.statements.StmtFaults.{StmtFaults}
use Rattle.element_rules.specs.Seen.{sight_of}
use Rattle.element_rules.specs.Faulty.{stmt_faults}
use Rattle.element_rules.proofs.Levels.{look_read, put_read, del_read, repeat_read}
use Rattle.element_rules.proofs.statements.statement.Goals as goal

pub returns-in-Look-clause-faults : goal.returns-in-Look-clause-faults
returns-in-Look-clause-faults c =
    let text = c.args.text.now in
    let sight = sight_of text c.args.objects.now c.args.sight.now in
    let level = look_read text c.in-Look.found c.in-Look.into c.in-Look.object c.in-Look.keys c.in-Look.is c.deref.ensures.value
    c.deref-in-Look.ensures.value in
    subst (λ (s : surface.SurfaceStmt). IfOk c.look.result (λ (f : StmtFaults). f ≡ stmt_faults sight s)) level c.look.ensures.faults

pub returns-in-Put-clause-faults : goal.returns-in-Put-clause-faults
returns-in-Put-clause-faults c =
    let text = c.args.text.now in
    let sight = sight_of text c.args.objects.now c.args.sight.now in
    let level = put_read text c.in-Put.ok c.in-Put.object c.in-Put.keys c.in-Put.values c.in-Put.is c.deref-in-Put.ensures.value
    c.deref-in-Put-2.ensures.value in
    subst (λ (s : surface.SurfaceStmt). IfOk c.put.result (λ (f : StmtFaults). f ≡ stmt_faults sight s)) level c.put.ensures.faults

pub returns-in-Del-clause-faults : goal.returns-in-Del-clause-faults
returns-in-Del-clause-faults c =
    let text = c.args.text.now in
    let sight = sight_of text c.args.objects.now c.args.sight.now in
    let level = del_read text c.in-Del.was c.in-Del.object c.in-Del.keys c.in-Del.is c.deref-in-Del.ensures.value in
    subst (λ (s : surface.SurfaceStmt). IfOk c.del.result (λ (f : StmtFaults). f ≡ stmt_faults sight s)) level c.del.ensures.faults

pub returns-in-Repeat-clause-faults : goal.returns-in-Repeat-clause-faults
returns-in-Repeat-clause-faults c =
    let text = c.args.text.now in
    let sight = sight_of text c.args.objects.now c.args.sight.now in
    let level = repeat_read text c.in-Repeat.index c.in-Repeat.count c.in-Repeat.body c.in-Repeat.is c.deref-in-Repeat.ensures.value in
    subst (λ (s : surface.SurfaceStmt). c.repeat.result ≡ stmt_faults sight s) level c.repeat.ensures
