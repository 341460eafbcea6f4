use Rattle.std.proofs.Common.{◌≡◌, ◌-◌, List, length, take, vec_capacity, arith, ap, subst, ◌∙◌}
use Rattle.std.specs.List.{AllByRecursion}
use Rattle.nb_entry.specs.declared.entry.Entry.{Entry}
use Rattle.nb_book.specs.declared.list.EntryList.{EntryList}
use Rattle.nb_book.specs.Indexes.{KeysFit}
use Rattle.nb_book.proofs.Indexing.{fit_pop}
use Rattle.nb_book.proofs.Keeping.{Behind, last_entry}
use Rattle.nb_book.proofs.list.EntryList.forget.Goals as goal

pub returns-clause-tied : goal.returns-clause-tied
returns-clause-tied c =
    let H : List Entry = c.args.self.now.entries.items in
    let front : List Entry = take (length H - 1) H in
    let behind : Behind front c.args.e.now H = last_entry H c.args.e.now c.requires.legal c.requires.some c.requires.last in
    let entries = ap (λ (l : EntryList). l.entries) c.reverse.ensures.rest in
    let cap : c.take_off_keys.new.self.cap ≡ c.args.self.now.cap = ap (λ (l : EntryList). l.cap) c.take_off_keys.ensures.rest ∙ ap (λ (l : EntryList). l.cap) c.reverse.ensures.rest in
    let balances = ap (λ (l : EntryList). l.balances) c.take_off_keys.ensures.rest in
    let count : c.reverse.new.self.balances.len - 1 ≡ length H - 1 =
    omega (arith, c.reverse.new.self.balances.ok.0, c.reverse.ensures.long, c.requires.tied.balances.long) in
    record {
      most = rw cap c.requires.tied.most;
      fit = (fit_pop front c.args.e.now (subst (λ (xs : List Entry). AllByRecursion KeysFit xs) behind.whole c.requires.tied.fit)).0;
      parties = rw (← entries) c.take_off_keys.ensures.parties;
      accounts = rw (← entries) c.take_off_keys.ensures.accounts;
      references = rw (← entries) c.take_off_keys.ensures.references;
      orders = rw (← entries) c.take_off_keys.ensures.orders;
      balances = rw (c.pop.ensures.rest, balances, count) c.reverse.ensures.balances;
      room = rw cap (omega (arith, c.requires.tied.room, c.reverse.ensures.capacity, ap vec_capacity balances, c.pop.ensures.capacity));
      sum = ap (λ (l : EntryList). l.total) c.take_off_keys.ensures.rest ∙ c.reverse.ensures.sum;
      fees = ap (λ (l : EntryList). l.fees) c.take_off_keys.ensures.rest ∙ c.reverse.ensures.fees;
    }

pub take_off_keys-requires-clause-last : goal.take_off_keys-requires-clause-last
take_off_keys-requires-clause-last c =
    let entries = ap (λ (l : EntryList). l.entries) c.reverse.ensures.rest in
    rw entries (last_entry c.args.self.now.entries.items c.args.e.now c.requires.legal c.requires.some c.requires.last).whole
