-- A link at work, as the link that it is.
use Rattle.std.specs.Prelude.{◌≡◌, ◌<◌, ◌^◌, ℕ, Option, length, map, slice_get}
use Rattle.std.specs.FinSet as set
use Rattle.lossy_link.specs.Ends.{receiver_of, sender_of}
use Rattle.lossy_link.specs.Laws.{IsFaithful}
use Rattle.lossy_link.specs.Link.{Link}
use Rattle.lossy_link.specs.declared.receiver.Delivered.{Delivered}
use Rattle.lossy_replay.specs.declared.line.Line.{Line}
use Rattle.lossy_replay.specs.declared.run.Ends.{Ends}
use Rattle.lossy_replay.specs.declared.run.Tally4.{Tally4}

-- what its ends have, and what was sent
abbrev pub link_of : Line → Link
link_of line = record {
  ordered = line.receiver.ordered;
  items = line.sender.items;
  sent = line.sent.items;
  got = map (λ (p : Delivered). p.number) line.receiver.pairs;
  back = line.back.items;
  known = line.sender.known;
}

-- the link is faithful, and what was delivered are its items
pub record IsAtWork (line : Line) : Type 0 where
  pub faithful : IsFaithful (link_of line)
  pub few : length line.sender.items < 2 ^ 32
  pub receiver : line.receiver ≡ receiver_of (link_of line)

-- the number that was delivered between two states of a link, if one was
abbrev pub delivered_by : Link → Link → Option ℕ
delivered_by before after = slice_get after.got (length before.got)

-- how many items it has, how many datagrams were sent, how many items were delivered, and how many are known to be
abbrev pub tally_of : Link → Tally4
tally_of l = record {
  items = length l.items;
  sent = length l.sent;
  delivered = length l.got;
  known = set.len l.known;
}

-- these are the ends of the link
pub record IsEnd (l : Link) (e : Ends) : Type 0 where
  pub sender : e.sender ≡ sender_of l
  pub receiver : e.receiver ≡ receiver_of l
  pub tally : e.tally ≡ tally_of l
