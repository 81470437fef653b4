-- Passes that are under way in the machine.
use Rattle.std.specs.Prelude.{◌≡◌, ◌≤◌, ◌<◌, ℕ, suc, ◌==◌, Bool, ◌&&◌, List, length, Option, Some, None, if◌then◌else◌, refl}
use Rattle.std.specs.BTreeMap.{BTreeMap, get}
use Rattle.std.specs.Coded.{Coded, Coded-set, code_by, coded×, coded_option, coded_ℕ, le_prop}
use Rattle.std.specs.Ordering.{nat_cmp}
use Rattle.packet_fields.specs.declared.packet.Packet.{Packet}
use Rattle.packet_fields.specs.declared.shape.Shape.{Shape}
use Rattle.packet_fields.specs.Shape.{shape_of}
use Rattle.packet_fields.specs.Sizes.{largest_packet}
use Rattle.transfer_header.specs.Registers.{Registers, content_of}
use Rattle.switch_ir.specs.Staged.{Numbers, Staging, is_had, is_read_later}
use Rattle.switch_machine.specs.declared.active_pass.ActivePass.{ActivePass}
use Rattle.switch_machine.specs.declared.numbering.ValueRange.{ValueRange}
use Rattle.switch_machine.specs.Numbers.{reads_by}

-- What a pass knows after stage t: of each value that it has then, and that is read later, the number in its register.
abbrev pub numbers_in : Staging → List ValueRange → ℕ → Registers → Numbers
numbers_in p ranges t registers v =
    if is_had p t v && is_read_later p t v then Some (reads_by ranges (content_of registers) v) else None

abbrev pub packet_in : ActivePass → Packet
packet_in f = record { port = f.port; bytes = f.packet }

-- the passes of a side, by the numbers of their packets
abbrev pub NumberedActivePasses : Type 0
NumberedActivePasses = ℕ → Option ActivePass

abbrev pub active_in : BTreeMap ℕ ActivePass → NumberedActivePasses
active_in active n = get nat_cmp active n

-- those of a side, with another in place of that of a number
abbrev pub with_pass : {X : Type 0} → ℕ → Option X → (ℕ → Option X) → ℕ → Option X
with_pass number pass passes n = if number == n then pass else passes n

-- a pass whose stage 0 is done, with these numbers in its registers
pub record IsBegun (packet : Packet) (bit : Bool) (numbers : List ℕ) (f : ActivePass) : Type 0 where
  pub packet_is : packet_in f ≡ packet
  pub shape_is : f.shape ≡ shape_of f.packet
  pub bit_is : f.bit ≡ bit
  pub stage_is : f.stage ≡ 0
  pub numbers_are : f.registers.numbers ≡ numbers

-- a pass that isn't at its end, of so many stages and in so many registers
pub record IsActivePass (stages count : ℕ) (f : ActivePass) : Type 0 where
  pub size : length f.packet ≤ largest_packet
  pub shape : f.shape ≡ shape_of f.packet
  pub numbers : length f.registers.numbers ≡ count
  pub below : suc f.stage < stages

abbrev pub AreActivePasses : ℕ → ℕ → NumberedActivePasses → Type 0
AreActivePasses stages count active = (n : ℕ) (f : ActivePass) → active n ≡ Some f → IsActivePass stages count f

-- this has at most one proof
shape_code : Coded Shape
shape_code =
    code_by (Option ℕ × (Option ℕ × (Option ℕ × (Option ℕ × Option ℕ))))
    (coded× (coded_option coded_ℕ) (coded× (coded_option coded_ℕ) (coded× (coded_option coded_ℕ) (coded× (coded_option coded_ℕ) (coded_option coded_ℕ)))))
    (λ s. (s.ethernet, (s.vlan, (s.ip, (s.tcp, s.udp)))))
    (λ p. record { ethernet = p.0; vlan = p.1.0; ip = p.1.1.0; tcp = p.1.1.1.0; udp = p.1.1.1.1 }) (λ _. refl)

pub active_prop : (stages count : ℕ) (active : NumberedActivePasses) → IsProp (AreActivePasses stages count active)
active_prop stages count active a b = λ i n f there. record {
  size = le_prop (a n f there).size (b n f there).size i;
  shape = Coded-set shape_code _ _ (a n f there).shape (b n f there).shape i;
  numbers = Coded-set coded_ℕ _ _ (a n f there).numbers (b n f there).numbers i;
  below = le_prop (a n f there).below (b n f there).below i;
}
