-- The text that a run alone writes.
use Rattle.std.specs.Prelude.{ℕ, suc, List, [], ◌∷◌, ◌++◌, codes, decimal}
use Rattle.gal_io.specs.Lines.{line_end}
use Rattle.packet_fields.specs.declared.verdict.Verdict.{Verdict}
use Rattle.state_store.specs.declared.object.ObjectDecl.{ObjectDecl}
use Rattle.run_model.specs.declared.run.ObjectRows.{ObjectRows}
use Rattle.run_text.specs.Report.{verdict_text, part_lines}

abbrev pub verdict_line : ℕ → Verdict → List ℕ
verdict_line number verdict = codes "packet " ++ (decimal number ++ (codes " " ++ (verdict_text verdict ++ line_end)))

-- the lines of the packets from this number on
abbrev pub verdict_lines : ℕ → List Verdict → List ℕ
verdict_lines number [] = []
verdict_lines number (v ∷ vs) = verdict_line number v ++ verdict_lines (suc number) vs

-- what became of each packet, and the rows that were left, of objects that are declared so
abbrev pub answer_of : List ObjectDecl → List Verdict → List ObjectRows → List ℕ
answer_of objects verdicts parts =
    verdict_lines 0 verdicts ++ (part_lines (codes "object") objects parts ++ (codes "end" ++ line_end))
