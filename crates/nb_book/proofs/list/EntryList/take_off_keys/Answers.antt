use Rattle.std.proofs.Common.{rules}
use Rattle.nb_book.proofs.Indexing.{index_ends, index_off}
use Rattle.nb_book.proofs.list.EntryList.take_off_keys.Goals as goal

pub take_off_key-requires : goal.take_off_key-requires
take_off_key-requires c = record { last = index_ends _ _ _ _ _ _ _ c.requires.parties c.requires.last c.keys_of-keys.ensures.party }

pub take_off_key-requires-2 : goal.take_off_key-requires-2
take_off_key-requires-2 c = record { last = index_ends _ _ _ _ _ _ _ c.requires.accounts c.requires.last c.keys_of-keys.ensures.account }

pub take_off_key-requires-3 : goal.take_off_key-requires-3
take_off_key-requires-3 c = record { last = index_ends _ _ _ _ _ _ _ c.requires.references c.requires.last c.keys_of-keys.ensures.reference }

pub take_off_key-requires-4 : goal.take_off_key-requires-4
take_off_key-requires-4 c = record { last = index_ends _ _ _ _ _ _ _ c.requires.orders c.requires.last c.keys_of-keys.ensures.order }

pub returns-clause-parties : goal.returns-clause-parties
returns-clause-parties c = search (rules, index_off)

pub returns-clause-accounts : goal.returns-clause-accounts
returns-clause-accounts c = search (rules, index_off)

pub returns-clause-references : goal.returns-clause-references
returns-clause-references c = search (rules, index_off)

pub returns-clause-orders : goal.returns-clause-orders
returns-clause-orders c = search (rules, index_off)
