use Rattle.std.proofs.Common.{rules, ap}
use Rattle.toml.specs.Errors.{IsMemory}
use Rattle.toml.specs.View.{table_view}
use Rattle.resource_limits.specs.Limits.{refusal_in}
use Rattle.resource_limits.proofs.Texts.{document_read, document_none, tells, good, refused}
use Rattle.resource_limits.proofs.reader.read_limits.Goals as goal

pub returns-in-Ok-clause-ok : goal.returns-in-Ok-clause-ok
returns-in-Ok-clause-ok c =
    tells _ _ _ (document_read _ (table_view c.in-Ok.table) c.in-Ok.ensures.ok.0 c.in-Ok.ensures.ok.1) c.limits_of.ensures.ok

pub returns-in-Ok-clause-good : goal.returns-in-Ok-clause-good
returns-in-Ok-clause-good c =
    good _ _ _ (document_read _ (table_view c.in-Ok.table) c.in-Ok.ensures.ok.0 c.in-Ok.ensures.ok.1) c.limits_of.ensures.good

pub returns-in-Ok-clause-refused : goal.returns-in-Ok-clause-refused
returns-in-Ok-clause-refused c =
    refused _ _ _ (document_read _ (table_view c.in-Ok.table) c.in-Ok.ensures.ok.0 c.in-Ok.ensures.ok.1) c.limits_of.ensures.refused

pub returns-else-is_memory-clause-refused : goal.returns-else-is_memory-clause-refused
returns-else-is_memory-clause-refused c =
    let other : ¬ (IsMemory c.in-Err.error) = search (rules, c.is_memory.ensures, c.if-is_memory.false) in
    λ _. ap refusal_in (document_none _ (c.in-Err.ensures.refused other))
