use Rattle.std.proofs.Common.{◌≡◌, List, arith, ap, ◌∙◌}
use Rattle.nb_entry.specs.declared.entry.Entry.{Entry}
use Rattle.nb_book.specs.declared.list.EntryList.{EntryList}
use Rattle.nb_book.specs.Indexes.{KeysFit}
use Rattle.nb_book.proofs.Indexing.{each_push}
use Rattle.nb_book.proofs.list.EntryList.record.Goals as goal

pub returns-clause-tied : goal.returns-clause-tied
returns-clause-tied c =
    let H : List Entry = c.args.self.now.entries.items in
    let entries = ap (λ (l : EntryList). l.entries) c.post.ensures.rest in
    let cap : c.put_keys.new.self.cap ≡ c.args.self.now.cap = ap (λ (l : EntryList). l.cap) c.put_keys.ensures.rest ∙ ap (λ (l : EntryList). l.cap) c.post.ensures.rest in
    let balances = ap (λ (l : EntryList). l.balances) c.put_keys.ensures.rest in
    record {
      most = rw cap c.requires.tied.most;
      fit = each_push KeysFit H c.args.e.now c.requires.tied.fit c.put_keys.ensures.fit;
      parties = rw (← entries) c.put_keys.ensures.parties;
      accounts = rw (← entries) c.put_keys.ensures.accounts;
      references = rw (← entries) c.put_keys.ensures.references;
      orders = rw (← entries) c.put_keys.ensures.orders;
      balances = rw (balances, c.push_reserved.ensures.items) c.post.ensures.balances;
      room = rw (cap, balances) (omega (arith, c.requires.tied.room, c.post.ensures.capacity, c.push_reserved.ensures.capacity));
      sum = ap (λ (l : EntryList). l.total) c.put_keys.ensures.rest ∙ c.post.ensures.sum;
      fees = ap (λ (l : EntryList). l.fees) c.put_keys.ensures.rest ∙ c.post.ensures.fees;
    }
