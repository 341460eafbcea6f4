use Rattle.std.proofs.Common.{◌≡◌, ◌++◌, length, take}
use Rattle.std.specs.Vec.{vec_capacity}
use Rattle.nb_msgs.specs.ReplyBytes.{joined}
use Rattle.nb_turns.specs.Turns.{decided, places, recorded, replies}
use Rattle.nb_vault.specs.Asking.{requests_of}
use Rattle.nb_vault.specs.Records.{Gathers, over_of}
use Rattle.nb_vault.specs.Rules.{house_of}
use Rattle.nb_vault.proofs.records.Records.decide_each.Given as goal

abbrev pub invariant-loop-ask : goal.invariant-loop-ask
invariant-loop-ask g l = record {
  gathers : Gathers g.D.Disk.tells l.self;
  over : over_of l.self ≡ l.fn.self.book.entries;
  charter : l.self.charter ≡ l.fn.self.charter;
  cap : l.self.book.cap ≡ l.fn.self.book.cap;
  journal : l.self.journal ≡ l.fn.self.journal;
  entries : l.self.book.entries ≡ l.fn.self.book.entries ++ recorded (house_of l.head l.fn.self.book.cap) l.fn.self.book.entries (requests_of l.bytes (take l.ask-index l.asks));
  group : l.self.group.items ≡ recorded (house_of l.head l.fn.self.book.cap) l.fn.self.book.entries (requests_of l.bytes (take l.ask-index l.asks));
  places : l.self.places.items ≡ places (decided (house_of l.head l.fn.self.book.cap) l.fn.self.book.entries (requests_of l.bytes (take l.ask-index l.asks)));
  drafts : joined l.drafts.items ≡ replies (decided (house_of l.head l.fn.self.book.cap) l.fn.self.book.entries (requests_of l.bytes (take l.ask-index l.asks)));
  count : length l.drafts.items ≡ l.ask-index;
  room : vec_capacity l.drafts ≡ vec_capacity l.initial.drafts;
}
