-- Commands that go through the tables that are told.
use Rattle.std.proofs.Common.{◌≡◌, ◌<◌, ◌==◌, ℕ, Bool, true, false, List, [], ◌∷◌, ◌++◌, length, get_or, Some, refl, sym, ap, ◌∙◌, arith, ⊎_elim, if◌then◌else◌}
use Rattle.std.proofs.lemmas.Bool.{cases_Bool, cases_eq, cond-true, cond-false, eq-eqb, eqb-true, ne_eqb, false≢true}
use Rattle.std.proofs.lemmas.List.{get_or-set_same, get_or-set_other, length-set}
use Rattle.std.proofs.lemmas.Option.{unwrap_or-slice_get}
use Rattle.state_store.specs.declared.object.ObjectDecl.{ObjectDecl}
use Rattle.state_store.specs.Kinds.{is_table}
use Rattle.writeback_table.specs.declared.command.Command.{Command}
use Rattle.writeback_table.specs.declared.command.Command.TheVariants.{Stage, Main, Clear}
use Rattle.writeback_table.specs.Commands.{names, pair_after, pair_through, bit_after, bit_through}
use Rattle.writeback_table.specs.Pair.{Pair, applied}
use Rattle.switch_ir.specs.Code.{Code}
use Rattle.switch_ir.specs.Port.{IsCommandOf, IsReplicatedIn}
use Rattle.switch_ir.specs.Tables.{declared_at, no_pair, pair_at, pairs_after, with_command}

-- ## One command behind others

pub one_more : (o : ℕ) (pair : Pair) (commands : List Command) (command : Command) → pair_through o pair (commands ++ command ∷ []) ≡ pair_after o (pair_through o pair commands) command
one_more o pair [] command = refl
one_more o pair (c ∷ cs) command = one_more o (pair_after o pair c) cs command

pub bit_more : (bit : Bool) (commands : List Command) (command : Command) → bit_through bit (commands ++ command ∷ []) ≡ bit_after (bit_through bit commands) command
bit_more bit [] command = refl
bit_more bit (c ∷ cs) command = bit_more (bit_after bit c) cs command

-- ## What it does to the tables of each object

own_pair : (pairs : List Pair) (k o : ℕ) (command : Command) → k ≡ o → o < length pairs → pair_at (with_command pairs k command) o ≡ applied (pair_at pairs o) command
own_pair pairs k o command same within =
    let next : Pair = applied (pair_at pairs k) command in
    let there : k < length pairs = omega (arith, same, within) in
    unwrap_or-slice_get (with_command pairs k command) o no_pair
    ∙ ap (λ n. get_or (with_command pairs k command) n no_pair) (sym same)
    ∙ get_or-set_same pairs k next no_pair there
    ∙ ap (λ n. applied (pair_at pairs n) command) same

other_pair : (pairs : List Pair) (k o : ℕ) (command : Command) → (k ≡ o → ⊥) → pair_at (with_command pairs k command) o ≡ pair_at pairs o
other_pair pairs k o command apart =
    unwrap_or-slice_get (with_command pairs k command) o no_pair
    ∙ get_or-set_other pairs k o (applied (pair_at pairs k) command) no_pair (λ same. apart (sym same))
    ∙ sym (unwrap_or-slice_get pairs o no_pair)

with_pair : (pairs : List Pair) (k o : ℕ) (command : Command) → o < length pairs → pair_at (with_command pairs k command) o ≡ (if k == o then applied (pair_at pairs o) command else pair_at pairs o)
with_pair pairs k o command within =
    ⊎_elim
    (λ same. own_pair pairs k o command same within ∙ sym (cond-true (k == o) (applied (pair_at pairs o) command) (pair_at pairs o) (eq-eqb k o same)))
    (λ apart. other_pair pairs k o command apart ∙ sym (cond-false (k == o) (applied (pair_at pairs o) command) (pair_at pairs o) (ne_eqb k o apart)))
    (cases_eq k o)

pub pair_goes : (pairs : List Pair) (o : ℕ) (command : Command) → o < length pairs → pair_at (pairs_after pairs command) o ≡ pair_after o (pair_at pairs o) command
pair_goes pairs o (Stage update) within = with_pair pairs update.object o (Stage update) within
pair_goes pairs o (Main update) within = with_pair pairs update.object o (Main update) within
pair_goes pairs o (Clear object key) within = with_pair pairs object o (Clear object key) within
pair_goes pairs o command within = refl

pub as_many : (pairs : List Pair) (command : Command) → length (pairs_after pairs command) ≡ length pairs
as_many pairs (Stage update) = length-set pairs update.object (applied (pair_at pairs update.object) (Stage update))
as_many pairs (Main update) = length-set pairs update.object (applied (pair_at pairs update.object) (Main update))
as_many pairs (Clear object key) = length-set pairs object (applied (pair_at pairs object) (Clear object key))
as_many pairs command = refl

-- ## Constant tables

-- a constant table is none that can change
not_changed : (code : Code) (k o : ℕ) (d e : ObjectDecl) → declared_at code.tables o ≡ Some d → is_table d.kind ≡ true → IsReplicatedIn code k e → (k == o) ≡ false
not_changed code k o d e is table changes =
    ⊎_elim
    (λ yes.
    let there : declared_at code.tables k ≡ Some d = ap (declared_at code.tables) (eqb-true k o yes) ∙ is in
    let found : Some e ≡ Some d = sym changes.declared ∙ there in
    let same : e ≡ d = cc in
    absurd (false≢true (sym changes.changes ∙ ap (λ (x : ObjectDecl). is_table x.kind) same ∙ table)))
    (λ no. no)
    (cases_Bool (k == o))

pub unnamed : (code : Code) (o : ℕ) (d : ObjectDecl) (command : Command) → declared_at code.tables o ≡ Some d → is_table d.kind ≡ true
    → IsCommandOf code command → names o command ≡ false
unnamed code o d (Stage update) is table own = not_changed code update.object o d own.0 is table own.1
unnamed code o d (Main update) is table own = not_changed code update.object o d own.0 is table own.1
unnamed code o d (Clear object key) is table own = not_changed code object o d own.0 is table own.1
unnamed code o d command is table own = refl
