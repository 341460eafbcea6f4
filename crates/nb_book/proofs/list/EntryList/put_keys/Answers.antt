use Rattle.std.proofs.Common.{rules, ◌∙◌}
use Rattle.nb_book.proofs.Indexing.{has_room, index_put}
use Rattle.nb_book.proofs.Naming.{party_new, account_new, reference_new, order_new}
use Rattle.nb_book.proofs.list.EntryList.put_keys.Goals as goal

pub put_key-requires : goal.put_key-requires
put_key-requires c = record {
  absent = rw c.keys_of-keys.ensures.party (party_new _ _ _ c.requires.fit c.requires.parties c.args.e.now c.requires.next c.keys_of-keys.ensures.fit);
  room = has_room _ _ _ _ c.requires.parties c.requires.within;
}

pub put_key-requires-2 : goal.put_key-requires-2
put_key-requires-2 c = record {
  absent = rw c.keys_of-keys.ensures.account (account_new _ _ _ c.requires.fit c.requires.accounts c.args.e.now c.requires.next c.keys_of-keys.ensures.fit);
  room = has_room _ _ _ _ c.requires.accounts c.requires.within;
}

pub put_key-requires-3 : goal.put_key-requires-3
put_key-requires-3 c = record {
  absent = rw c.keys_of-keys.ensures.reference (reference_new _ _ _ c.requires.fit c.requires.references c.args.e.now c.requires.next);
  room = has_room _ _ _ _ c.requires.references c.requires.within;
}

pub put_key-requires-4 : goal.put_key-requires-4
put_key-requires-4 c = record {
  absent = rw c.keys_of-keys.ensures.order (order_new _ _ _ c.requires.fit c.requires.orders c.args.e.now c.requires.next c.keys_of-keys.ensures.fit);
  room = has_room _ _ _ _ c.requires.orders c.requires.within;
}

pub returns-clause-parties : goal.returns-clause-parties
returns-clause-parties c = let at = c.len-at.ensures ∙ c.args.self.now.entries.ok.0 in search (rules, index_put)

pub returns-clause-accounts : goal.returns-clause-accounts
returns-clause-accounts c = let at = c.len-at.ensures ∙ c.args.self.now.entries.ok.0 in search (rules, index_put)

pub returns-clause-references : goal.returns-clause-references
returns-clause-references c = let at = c.len-at.ensures ∙ c.args.self.now.entries.ok.0 in search (rules, index_put)

pub returns-clause-orders : goal.returns-clause-orders
returns-clause-orders c = let at = c.len-at.ensures ∙ c.args.self.now.entries.ok.0 in search (rules, index_put)
