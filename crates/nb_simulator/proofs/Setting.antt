-- How a set-up is gone through.
use Rattle.std.proofs.Common.{◌≡◌, ℕ, ◌+◌, ◌<◌, ◌≤◌, true, List, [], ◌∷◌, ◌++◌, length, map, take, get_or, Option, Some, None, sym, ap, subst, ◌∙◌, arith, length-append}
use Rattle.std.proofs.lemmas.List.{take_more}
use Rattle.std.specs.Prelude.{◌&&◌}
use Rattle.std.proofs.lemmas.Bool.{and_parts}
use Rattle.nb_price.specs.Products.{Product}
use Rattle.nb_stall.specs.declared.stall.Stall.{Stall}
use Rattle.nb_merchant.specs.Shop.{Shop}
use Rattle.nb_units.specs.Charter.{MayRule}
use Rattle.nb_units.specs.declared.limits.TheConstants.{MAX_CAP}
use Rattle.nb_book.specs.Ledger.{Ledger}
use Rattle.nb_escrow.specs.declared.head.Head.{Head}
use Rattle.nb_escrow.specs.Head.{head_of}
use Rattle.nb_wallet.specs.declared.wallet.Wallet.{Wallet}
use Rattle.nb_consumer.specs.State.{Buyer, new_buyer}
use Rattle.nb_simulator.specs.declared.setup.Parties.{Parties}
use Rattle.nb_simulator.specs.declared.setup.Setup.{Setup}
use Rattle.nb_simulator.specs.Worlds.{Simulated}
use Rattle.nb_simulator.specs.Setups.{Fills, IsLawful, Makes, wallets_may, stalls_may, shop_of, world_of}
use Rattle.nb_entry.specs.declared.entry.Entry.{Entry}
use Rattle.nb_book.specs.Legal.{LegalUnder, NextUnder}
use Rattle.nb_book.specs.Laws.{LegalUnderIsNext}

-- the entry at a place may come next, where all are Legal
pub next_at : LegalUnderIsNext → (version rate : ℕ) (H so_far : List Entry) (k : ℕ) (d : Entry) → LegalUnder version rate H → k < length H → so_far ≡ take k H → NextUnder version rate so_far (get_or H k d)
next_at law version rate H so_far k d legal within far = subst (λ (xs : List Entry). NextUnder version rate xs (get_or H k d)) (sym far) ((law version rate H).0 legal k within d)

-- one more of the first entries
pub front_more : (H so new : List Entry) (k : ℕ) (e d : Entry) → new ≡ so ++ e ∷ [] → so ≡ take k H → k < length H → e ≡ get_or H k d → new ≡ take (k + 1) H
front_more H so new k e d added are within is = added ∙ ap (λ (es : List Entry). es ++ e ∷ []) are ∙ ap (λ (x : Entry). take k H ++ x ∷ []) is ∙ sym (take_more H k d within)

pub one_more_fits : (xs ys : List Entry) (e : Entry) (cap : ℕ) → ys ≡ xs ++ e ∷ [] → length xs ≤ cap → (length xs ≡ cap → ⊥) → length ys ≤ cap
one_more_fits xs ys e cap is fits not =
    let more : length ys ≡ length xs + 1 = ap length is ∙ length-append xs (e ∷ []) in
    by (length xs) (length ys) fits not more
  where
    by : (a b : ℕ) → a ≤ cap → (a ≡ cap → ⊥) → b ≡ a + 1 → b ≤ cap
    by a b fits not more = omega (arith, fits, not, more)

-- ---- what is made

-- a world in which nothing happened
abbrev pub built : Head → ℕ → List Buyer → List Shop → List Entry → Simulated
built head cap buyers sellers entries = record {
  head = head;
  cap = cap;
  world = record {
    consumers = buyers;
    merchants = sellers;
    packets = [];
    calls = [];
    turn = None;
    durable = entries;
    server = entries;
    origins = [];
    acknowledged = [];
    moment = 0;
  };
}

-- who buys and who sells may be so, and they are made
abbrev pub PartiesMade : List Entry → List Wallet → List (Stall × List Product) → Option Parties → Type 0
PartiesMade H wallets sellers made =
    Makes (wallets_may H [] wallets && stalls_may H [] sellers) (record { consumers = map new_buyer wallets; merchants = map shop_of sellers }) made

pub made_lawful : (s : Setup) (head : Head) (book : Ledger) (wallets : List Wallet) (made : Option Parties) (parties : Parties)
    → MayRule s.version s.rate → 1 ≤ s.cap → s.cap ≤ MAX_CAP → head ≡ head_of (record { head = s.head; version = s.version; rate = s.rate })
    → Fills head s.cap s.entries.items (Some book) → wallets ≡ s.consumers.items
    → PartiesMade book.entries wallets s.merchants.items made → made ≡ Some parties
    → IsLawful s × (built head book.cap parties.consumers parties.merchants book.entries ≡ world_of s)
made_lawful s head book wallets made parties ruling some most head_is fills wallets_is makes is =
    let m = subst (PartiesMade book.entries wallets s.merchants.items) is makes in
    let may = and_parts (wallets_may book.entries [] wallets) (stalls_may book.entries [] s.merchants.items) m.0 in
    let real = head_of (record { head = s.head; version = s.version; rate = s.rate }) in (
      record {
        ruling = ruling;
        some = some;
        most = most;
        within = fills.3;
        legal = subst (λ (h : Head). LegalUnder h.version h.rate s.entries.items) head_is fills.2;
        consumers = subst (λ (es : List Entry). wallets_may es [] s.consumers.items ≡ true) fills.0 (subst (λ (ws : List Wallet). wallets_may book.entries [] ws ≡ true) wallets_is may.0);
        merchants = subst (λ (es : List Entry). stalls_may es [] s.merchants.items ≡ true) fills.0 may.1;
      },
      ap (λ (h : Head). built h book.cap parties.consumers parties.merchants book.entries) head_is
          ∙ ap (λ (c : ℕ). built real c parties.consumers parties.merchants book.entries) fills.1
          ∙ ap (λ (p : Parties). built real s.cap p.consumers p.merchants book.entries) m.1
          ∙ ap (λ (ws : List Wallet). built real s.cap (map new_buyer ws) (map shop_of s.merchants.items) book.entries) wallets_is
          ∙ ap (λ (es : List Entry). built real s.cap (map new_buyer s.consumers.items) (map shop_of s.merchants.items) es) fills.0,
    )
