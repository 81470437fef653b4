-- The text of a report.
use Rattle.std.specs.Prelude.{ℕ, suc, Bool, true, false, List, [], ◌∷◌, ◌++◌, length, codes, decimal, Option, Some}
use Rattle.std.specs.Prelude.{None, slice_get}
use Rattle.hex.specs.Hex.{encode_lower}
use Rattle.gal_io.specs.Lines.{line_end}
use Rattle.gal_io.specs.Number.{spaced_numbers}
use Rattle.packet_fields.specs.declared.verdict.Verdict.{Verdict}
use Rattle.packet_fields.specs.declared.verdict.Verdict.TheVariants.{Drop, Send}
use Rattle.run_model.specs.declared.fate.Fate.{Fate}
use Rattle.run_model.specs.declared.fate.Fate.TheVariants.{Pass, Up, Held, Slow, Fast}
use Rattle.state_store.specs.declared.object.Row.{Row}
use Rattle.state_store.specs.declared.object.ObjectDecl.{ObjectDecl}
use Rattle.run_model.specs.declared.run.ObjectRows.{ObjectRows}
use Rattle.run_model.specs.declared.run.Run.{Run}

-- the bytes of a packet in lower-case hexadecimal digits, or `-` for none
abbrev pub body_text : List ℕ → List ℕ
body_text [] = codes "-"
body_text (b ∷ bs) = encode_lower (b ∷ bs)

abbrev pub verdict_text : Verdict → List ℕ
verdict_text Drop = codes "drop"
verdict_text (Send port bytes) = codes "send " ++ (decimal port ++ (codes " " ++ body_text bytes))

-- how a packet was decided
abbrev pub decided_text : List ℕ → ℕ → ℕ → ℕ → List ℕ
decided_text path admitted decided version =
    path ++ (codes " admitted " ++ (decimal admitted
    ++ (codes " decided " ++ (decimal decided ++ (codes " version " ++ decimal version)))))

-- how it was released
abbrev pub released_text : ℕ → Verdict → List ℕ
released_text released verdict = codes " released " ++ (decimal released ++ (codes " " ++ verdict_text verdict))

abbrev pub fate_text : Fate → List ℕ
fate_text (Pass admitted) = codes "pass admitted " ++ decimal admitted
fate_text (Up admitted) = codes "up admitted " ++ decimal admitted
fate_text (Held admitted decided version) = decided_text (codes "slow") admitted decided version ++ codes " held"
fate_text (Slow admitted decided version released verdict) =
    decided_text (codes "slow") admitted decided version ++ released_text released verdict
fate_text (Fast admitted decided version released verdict) =
    decided_text (codes "fast") admitted decided version ++ released_text released verdict

abbrev pub fate_line : ℕ → Fate → List ℕ
fate_line number fate = codes "packet " ++ (decimal number ++ (codes " " ++ (fate_text fate ++ line_end)))

-- the lines of the packets from this number on
abbrev pub fate_lines : ℕ → List Fate → List ℕ
fate_lines number [] = []
fate_lines number (f ∷ fs) = fate_line number f ++ fate_lines (suc number) fs

abbrev pub order_text : List ℕ → List ℕ
order_text [] = codes " -"
order_text (n ∷ ns) = spaced_numbers (n ∷ ns)

abbrev pub order_line : List ℕ → List ℕ
order_line order = codes "order" ++ (order_text order ++ line_end)

abbrev pub packets_line : Run → List ℕ
packets_line run =
    codes "packets " ++ (decimal run.total ++ (codes " admitted " ++ (decimal (length run.fates)
    ++ (codes " decided " ++ (decimal run.decided ++ (codes " released " ++ (decimal run.released ++ line_end)))))))

abbrev pub events_line : Run → List ℕ
events_line run = codes "events " ++ (decimal run.events ++ (codes " idle " ++ (decimal run.idle ++ line_end)))

abbrev pub version_line : Run → List ℕ
version_line run = codes "version " ++ (decimal run.version ++ (codes " visible " ++ (decimal run.visible ++ line_end)))

abbrev pub drained_line : Bool → List ℕ
drained_line true = codes "drained yes" ++ line_end
drained_line false = codes "drained no" ++ line_end

-- each number of a row's key before a space; those of its value stand behind one
abbrev pub key_text : List ℕ → List ℕ
key_text [] = []
key_text (n ∷ ns) = decimal n ++ (codes " " ++ key_text ns)

abbrev pub row_line : Row → List ℕ
row_line row = key_text row.keys ++ (codes "->" ++ (spaced_numbers row.values ++ line_end))

abbrev pub row_lines : List Row → List ℕ
row_lines [] = []
row_lines (row ∷ rows) = row_line row ++ row_lines rows

-- the name of the object of a number
abbrev pub name_in : Option ObjectDecl → List ℕ
name_in None = []
name_in (Some object) = object.name

-- what the parts are called, an object's name, and its rows
abbrev pub part_line : List ℕ → List ObjectDecl → ObjectRows → List ℕ
part_line word objects part =
    word ++ (codes " " ++ (name_in (slice_get objects part.object)
    ++ (codes " " ++ (decimal (length part.rows) ++ line_end))))

abbrev pub part_lines : List ℕ → List ObjectDecl → List ObjectRows → List ℕ
part_lines word objects [] = []
part_lines word objects (part ∷ parts) =
    part_line word objects part ++ (row_lines part.rows ++ part_lines word objects parts)

-- the rows on the server, and those on the switch
abbrev pub tables_text : List ObjectDecl → Run → List ℕ
tables_text objects run =
    part_lines (codes "object") objects run.objects ++ part_lines (codes "switch") objects run.switch

-- the whole report of a run, whose objects are declared so
abbrev pub report_of : List ObjectDecl → Run → List ℕ
report_of objects run =
    (codes "report 1" ++ line_end) ++ (packets_line run ++ (events_line run ++ (version_line run
    ++ (drained_line run.drained ++ (fate_lines 0 run.fates ++ (order_line run.order
    ++ (tables_text objects run ++ (codes "end" ++ line_end))))))))
