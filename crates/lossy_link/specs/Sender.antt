-- The end of a link that sends.
use Rattle.std.specs.Prelude.{ℕ, ◌==◌, ◌&&◌, not, List, [], ◌∷◌, ◌++◌, length, Option, Some, None, nat_lt}
use Rattle.std.specs.Prelude.{slice_get, unwrap_or, if◌then◌else◌, refl}
use Rattle.std.specs.Coded.{Coded, code_by, coded×, coded_ℕ, coded_list}
use Rattle.std.specs.FinSet as set
use Rattle.std.specs.List.{filter, range_with_len}
use Rattle.std.specs.Ordering.{nat_cmp}
use Rattle.lossy_link.specs.declared.answers.Confirm.{Confirm}
use Rattle.lossy_link.specs.declared.answers.Confirm.TheVariants.{Known, Again, Malformed}
use Rattle.lossy_link.specs.Datagrams.{datagram, number_in}

abbrev pub Numbers : Type 0
Numbers = set.FinSet nat_cmp

pub record Sender : Type 0 where
  -- all items so far; the number of an item is its place
  pub items : List (List ℕ)
  -- the numbers of those that are known to be delivered
  pub known : Numbers

abbrev pub sender_code : Coded Sender
sender_code =
    code_by (List (List ℕ) × Numbers) (coded× (coded_list (coded_list coded_ℕ)) (set.code coded_ℕ))
    (λ s. (s.items, s.known)) (λ p. record { items = p.0; known = p.1 }) (λ _. refl)

abbrev pub first_sender : Sender
first_sender = record { items = []; known = set.empty }

abbrev pub given : Sender → List ℕ → Sender
given s item = record { items = s.items ++ item ∷ []; known = s.known }

abbrev pub item_at : List (List ℕ) → ℕ → List ℕ
item_at items number = unwrap_or (slice_get items number) []

-- the numbers of items that aren't known, the lowest first
abbrev pub unknown : List (List ℕ) → Numbers → List ℕ
unknown items known = filter (λ n. not (set.contains known n)) (range_with_len 0 (length items))

abbrev pub datagram_of : Sender → ℕ → List ℕ
datagram_of s number = datagram number (item_at s.items number)

-- the item's number that four bytes spell, if they do
abbrev pub confirmed : Sender → List ℕ → Option ℕ
confirmed s bytes =
    if (length bytes == 4) && nat_lt (number_in bytes) (length s.items) then Some (number_in bytes) else None

abbrev pub answer_to : Sender → Option ℕ → Confirm
answer_to s None = Malformed
answer_to s (Some number) = if set.contains s.known number then Again else Known

-- a number is known from now on
abbrev pub with_known : Sender → Option ℕ → Sender
with_known s None = s
with_known s (Some number) = record { items = s.items; known = set.insert s.known number }

-- what a confirmation is answered, and what it leaves
abbrev pub confirm_answer : Sender → List ℕ → Confirm
confirm_answer s bytes = answer_to s (confirmed s bytes)

abbrev pub after_confirm : Sender → List ℕ → Sender
after_confirm s bytes = with_known s (confirmed s bytes)
