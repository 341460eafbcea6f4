-- What follows for every world that is made of a lawful set-up, behind every list of events.
use Rattle.std.specs.Prelude.{◌≡◌, ℕ, ◌≤◌, Bool, List, [], ◌∷◌, ◌++◌, length, Option, Some}
use Rattle.std.specs.List.{slice_get}
use Rattle.nb_units.specs.declared.ids.AcctId.{AcctId}
use Rattle.nb_units.specs.declared.ids.PartyId.{PartyId}
use Rattle.nb_entry.specs.declared.entry.Entry.{Entry}
use Rattle.nb_book.specs.Legal.{LegalUnder}
use Rattle.nb_epo.specs.Spelling.{order_bytes}
use Rattle.nb_endorse.specs.declared.receipt.Signed.{Signed}
use Rattle.nb_escrow.specs.declared.head.Head.{Head}
use Rattle.nb_escrow.specs.declared.settlement.PaymentOutcome.TheVariants.{Paid}
use Rattle.nb_escrow.specs.Head.{IsRuling}
use Rattle.nb_wallet.specs.Purchases.{Purchase}
use Rattle.nb_consumer.specs.State.{Buyer, purchase_of}
use Rattle.nb_merchant.specs.Shop.{Shop}
use Rattle.nb_world.specs.declared.event.Event.{Event}
use Rattle.nb_world.specs.declared.event.Event.TheVariants as on
use Rattle.nb_world.specs.declared.packet.Packet.{Packet}
use Rattle.nb_world.specs.World.{World, commits}
use Rattle.nb_world.specs.Steps.{run}
use Rattle.nb_world.specs.Laws.{Begins, GrowsInto, IsLawfulWorld, IsSetUp}
use Rattle.nb_parties.specs.Rules.{house_verdict}
use Rattle.nb_parties.specs.Ends.{EndsBy, IsToldBy, EndsAsEntry}
use Rattle.nb_parties.specs.Goods.{MerchantsAreEnrolled, PaysUnder, IsKeyOfGoods, IsOfGoods}
use Rattle.nb_parties.specs.Held.{ConsumersAreSo, HoldsGoods}
use Rattle.nb_simulator.specs.declared.setup.Setup.{Setup}
use Rattle.nb_simulator.specs.Setups.{IsLawful, SellersFit, world_of}
use Rattle.nb_simulator.specs.Worlds.{Simulated, rules_of}

-- it is as the laws over real parties premise
pub record MeetsPremises (s : Simulated) : Type 0 where
  pub ruling : IsRuling s.head
  pub begins : IsSetUp s.world
  pub merchants : MerchantsAreEnrolled s.world
  pub consumers : ConsumersAreSo s.world

-- so is the world of each lawful set-up, whose merchants' numbers have their widths
abbrev pub SetUpsMeet : Type 0
SetUpsMeet = (s : Setup) → IsLawful s → SellersFit s.merchants.items → MeetsPremises (world_of s)

-- the head of a set-up's house
abbrev pub head_in : Setup → Head
head_in s = (world_of s).head

-- its world behind these events, which `World::step` takes it on by
abbrev pub behind : Setup → List Event → World Buyer Shop
behind s es = run (rules_of (world_of s)) (world_of s).world es

-- what a program has of a set-up behind these events: its house, and that world. `World::try_new` makes it behind none, and `World::step` takes it on
abbrev pub IsBehind : Setup → List Event → Simulated → Type 0
IsBehind s es w = w ≡ record (world_of s) { world = behind s es }

-- the entries are Legal, and each came by a call; what was acknowledged stands; each reply is the verdict's over the first of them
abbrev pub WorldsAreLawful : Type 0
WorldsAreLawful = (s : Setup) → IsLawful s → (es : List Event) → IsLawfulWorld (house_verdict (head_in s) s.cap) (behind s es)

-- the entries are Legal under the version and the rate of the set-up, and at most as many as its cap
abbrev pub KeepsTerms : Setup → List Entry → Type 0
KeepsTerms s entries = LegalUnder s.version s.rate entries × (length entries ≤ s.cap)

-- so are the durable entries, and so is the commit list
abbrev pub TermsAreKept : Type 0
TermsAreKept = (s : Setup) → IsLawful s → (es : List Event) → KeepsTerms s (behind s es).durable × KeepsTerms s (commits (behind s es))

-- nothing of a world is lost in a later one, whatever the set-up is
abbrev pub WorldsOnlyGrow : Type 0
WorldsOnlyGrow = (s : Setup) (es more : List Event) → GrowsInto (behind s es) (behind s (es ++ more))

-- what a stop leaves of the entries is a prefix of the commit list before it
abbrev pub StopsKeepPrefix : Type 0
StopsKeepPrefix = (s : Setup) (es : List Event) (keep : Bool) → Begins (commits (behind s es)) (behind s (es ++ on.Stop keep ∷ [])).durable

-- the key of each payment behind the set-up's entries opens what its consumer held, where a merchant's step made the request
abbrev pub PaymentsOpenGoods : Type 0
PaymentsOpenGoods = (s : Setup) → IsLawful s → SellersFit s.merchants.items → (es : List Event) (at : ℕ) (entry : Entry) (key : List ℕ)
    → slice_get (behind s es).durable at ≡ Some entry → PaysUnder key entry → length s.entries.items ≤ at
    → IsOfGoods (head_in s) s.cap (world_of s).world (behind s es) at entry key

-- a purchase that ended as the entry of its order says, where that is a payment and a merchant endorsed the very order that the consumer kept with its key, is
-- paid with the goods of the product, or holds a collision with them as they were sealed. So it is of every set-up: its consumers know nothing yet
abbrev pub PaidHoldsGoods : Type 0
PaidHoldsGoods = (s : Setup) (es more : List Event) (id : PartyId) (k transaction : ℕ) (signed : Signed)
    → (ended : EndsBy (rules_of (world_of s)) (behind s es) id k transaction signed)
    → let later = behind s (es ++ on.Deliver k ∷ more) in (whom : PartyId) (now : Option Purchase)
    → (entry : EndsAsEntry (head_in s).house later.durable whom signed (purchase_of ended.buyer transaction) now)
    → (cacct macct : AcctId) (key : List ℕ) (fee : Option ℕ) → entry.settlement.outcome ≡ Paid cacct macct key fee
    → (seller : PartyId) (packet : Packet) (of : IsKeyOfGoods (world_of s).world seller packet key) → of.endorsed.endorses.sent.order ≡ order_bytes entry.order
    → HoldsGoods key of.endorsed.endorses.product.goods entry.behind

-- a purchase that ended by a receipt which the house made for its consumer is, then and behind all that follows, what the entry of its order says
abbrev pub PurchasesEndAsEntriesSay : Type 0
PurchasesEndAsEntriesSay = (s : Setup) → IsLawful s → (es more : List Event) (id : PartyId) (k transaction : ℕ) (signed : Signed)
    → (ended : EndsBy (rules_of (world_of s)) (behind s es) id k transaction signed) → let later = behind s (es ++ on.Deliver k ∷ more) in
    (b : Buyer) × (slice_get later.consumers ended.is.place ≡ Some b)
    × ((told : IsToldBy (head_in s) s.cap later ended.buyer.wallet.key signed)
    → EndsAsEntry (head_in s).house later.durable told.whom signed (purchase_of ended.buyer transaction) (purchase_of b transaction))
