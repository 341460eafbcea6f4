-- What a script sets up is as a world needs it.
use Rattle.std.proofs.Common.{◌≡◌, ℕ, ◌+◌, ◌<◌, ◌≤◌, Bool, true, false, cond, List, [], ◌∷◌, ◌++◌, map, length, Option, Some, None, Ok, inl, refl, sym, ap, ◌∙◌, arith, length-append}
use Rattle.std.specs.Prelude.{is_none, IsNone, ◌==◌, ◌&&◌}
use Rattle.std.specs.List.{position, AllByRecursion}
use Rattle.std.specs.Option.{option_or}
use Rattle.std.proofs.lemmas.Bool.{false≢true, eq-eqb, eqb-true}
use Rattle.std.proofs.lemmas.Slice.Eq.{bytes_eq-Decides}
use Rattle.nb_units.specs.declared.ids.PartyId.{PartyId}
use Rattle.nb_units.specs.declared.ids.AcctId.{AcctId}
use Rattle.nb_units.specs.declared.limits.TheConstants.{MAX_CAP, FIRST_VERSION}
use Rattle.nb_entry.specs.declared.entry.Entry.{Entry}
use Rattle.nb_entry.specs.declared.entry.Entry.TheVariants.{Enrol}
use Rattle.nb_entry.specs.declared.entry.TheConstants.{CONSUMER, MERCHANT}
use Rattle.nb_book.specs.declared.party.Party.{Party}
use Rattle.nb_book.specs.Legal.{LegalUnder}
use Rattle.nb_book.specs.Laws.{StaysLegalUnder}
use Rattle.nb_book.specs.Searches.{party_in, party_at}
use Rattle.nb_book.proofs.Indexing.{first_push}
use Rattle.nb_consumer.specs.State.{Buyer, new_buyer}
use Rattle.nb_merchant.specs.Shop.{Shop}
use Rattle.nb_script.specs.declared.limits.TheConstants.{MAX_SCRIPT_CAP}
use Rattle.nb_script.specs.declared.line.Consumer.{Consumer}
use Rattle.nb_script.specs.declared.line.Merchant.{Merchant}
use Rattle.nb_script.specs.declared.line.Shelf.{Shelf}
use Rattle.nb_script.specs.Settings.{Setting, consumer_entry, merchant_entry, fund_entry}
use Rattle.nb_script.specs.Reads.{ScriptSays}
use Rattle.nb_script.proofs.Induction.{script_keeps}
use Rattle.nb_simulator.specs.Setups.{is_enrolled, wallets_may, stalls_may, shop_of}
use Rattle.nb_player.specs.Playing.{wallet_of}
use Rattle.nb_player.specs.Stock.{stall_of, catalogue_of, merchants_of}
use Rattle.nb_player.specs.Laws.{SetUpsAreLawful}
use Rattle.nb_player.proofs.Listing.{may, kept, one_more, none_has, no_place}

-- a consumer, a merchant is enrolled as it is listed
abbrev consumer_ok : List Entry → Consumer → Bool
consumer_ok H c = is_enrolled (party_in H c.id) CONSUMER c.acct (Some c.nonce) c.key

abbrev merchant_ok : List Entry → Merchant → Bool
merchant_ok H m = is_enrolled (party_in H m.id) MERCHANT m.acct None m.key

-- what a world has of each
abbrev buyer_of : Consumer → Buyer
buyer_of c = new_buyer (wallet_of c)

abbrev seller_of : List Shelf → Merchant → Shop
seller_of shelves m = shop_of (stall_of m, catalogue_of m.id shelves)

-- their numbers
abbrev buyer_number : Buyer → ℕ
buyer_number b = b.wallet.id.0

abbrev seller_number : Shop → ℕ
seller_number s = s.stall.id.0

abbrev consumer_number : Consumer → ℕ
consumer_number c = c.id.0

abbrev merchant_number : Merchant → ℕ
merchant_number m = m.id.0

abbrev consumers_are : List Entry → List Buyer → List Consumer → Bool
consumers_are = may buyer_of buyer_number consumer_number consumer_ok

abbrev merchants_are : List Shelf → List Entry → List Shop → List Merchant → Bool
merchants_are shelves = may (seller_of shelves) seller_number merchant_number merchant_ok

-- what lines set up so far is so, whatever is sold
record IsSound (shelves : List Shelf) (s : Setting) : Type 0 where
  some : 1 ≤ s.cap
  most : s.cap ≤ MAX_SCRIPT_CAP
  within : length s.entries ≤ s.cap
  legal : LegalUnder FIRST_VERSION 0 s.entries
  consumers : consumers_are s.entries [] s.consumers ≡ true
  merchants : merchants_are shelves s.entries [] s.merchants ≡ true

-- ---- one entry more

-- a party that was enrolled still is
party_stays : (H : List Entry) (e : Entry) (id : PartyId) (p : Party) → party_in H id ≡ Some p → party_in (H ++ e ∷ []) id ≡ Some p
party_stays H e id p is = first_push (party_at id) 0 H e ∙ ap (λ (o : Option Party). option_or o (party_at id (0 + length H) e)) is

enrolled_stays : (H : List Entry) (e : Entry) (id : PartyId) (role : ℕ) (acct : AcctId) (nonce : Option ℕ) (key : List ℕ) → is_enrolled (party_in H id) role acct nonce key ≡ true
    → is_enrolled (party_in (H ++ e ∷ []) id) role acct nonce key ≡ true
enrolled_stays H e id role acct nonce key is = by (party_in H id) refl is
  where
    by : (o : Option Party) → party_in H id ≡ o → is_enrolled o role acct nonce key ≡ true → is_enrolled (party_in (H ++ e ∷ []) id) role acct nonce key ≡ true
    by None found is = absurd (false≢true is)
    by (Some p) found is = ap (λ (o : Option Party). is_enrolled o role acct nonce key) (party_stays H e id p found) ∙ is

-- one whose entry is new is enrolled by it
new_party : (H : List Entry) (id : PartyId) (role : ℕ) (acct : AcctId) (nonce : ℕ) (key : List ℕ) → party_in H id ≡ None
    → party_in (H ++ Enrol id role acct nonce key ∷ []) id ≡ Some (record { at = length H; role = role; acct = acct; nonce = nonce; key = key })
new_party H id role acct nonce key none =
    let e = Enrol id role acct nonce key in
    first_push (party_at id) 0 H e ∙ ap (λ (o : Option Party). option_or o (party_at id (0 + length H) e)) none ∙ own (id.0 == id.0) (eq-eqb id.0 id.0 refl)
  where
    own : (b : Bool) → b ≡ true → cond {A = Option Party} b (Some (record { at = 0 + length H; role = role; acct = acct; nonce = nonce; key = key })) None ≡ Some (record { at = length H; role = role; acct = acct; nonce = nonce; key = key })
    own true e = ap (λ (n : ℕ). let p : Option Party = Some (record { at = n; role = role; acct = acct; nonce = nonce; key = key }) in p) zero_more
      where
        zero_more : 0 + length H ≡ length H
        zero_more = omega arith
    own false e = absurd (false≢true e)

new_consumer : (H : List Entry) (c : Consumer) → party_in H c.id ≡ None → consumer_ok (H ++ consumer_entry c ∷ []) c ≡ true
new_consumer H c none = ap (λ (o : Option Party). is_enrolled o CONSUMER c.acct (Some c.nonce) c.key) (new_party H c.id CONSUMER c.acct c.nonce c.key none)
    ∙ rw (eq-eqb c.acct.0 c.acct.0 refl, eq-eqb c.nonce c.nonce refl, (bytes_eq-Decides c.key c.key).1 refl) refl

new_merchant : (H : List Entry) (m : Merchant) → party_in H m.id ≡ None → merchant_ok (H ++ merchant_entry m ∷ []) m ≡ true
new_merchant H m none = ap (λ (o : Option Party). is_enrolled o MERCHANT m.acct None m.key) (new_party H m.id MERCHANT m.acct 0 m.key none)
    ∙ rw (eq-eqb m.acct.0 m.acct.0 refl, (bytes_eq-Decides m.key m.key).1 refl) refl

-- one who is enrolled has not the number of a party that is not
other_number : (H : List Entry) (id other : PartyId) (role : ℕ) (acct : AcctId) (nonce : Option ℕ) (key : List ℕ) → party_in H other ≡ None → is_enrolled (party_in H id) role acct nonce key ≡ true
    → (id.0 == other.0) ≡ false
other_number H id other role acct nonce key none is = by (id.0 == other.0) refl
  where
    by : (b : Bool) → (id.0 == other.0) ≡ b → b ≡ false
    by false e = refl
    by true e =
        let same : party_in H id ≡ None = ap (λ (n : ℕ). party_in H (record { 0 = n })) (eqb-true id.0 other.0 e) ∙ none in
        absurd (false≢true (sym (ap (λ (o : Option Party). is_enrolled o role acct nonce key) same) ∙ is))

is_none_is : {A : Type 0} (o : Option A) → IsNone o → o ≡ None
is_none_is None e = refl
is_none_is (Some x) e = absurd (false≢true (sym e))

-- ---- who is listed

one_longer : (H : List Entry) (e : Entry) (n : ℕ) → length H < n → length (H ++ e ∷ []) ≤ n
one_longer H e n room = rw (length-append H (e ∷ [])) (omega arith)

-- whoever was enrolled as it is listed still is, with an entry more
consumers_stay : (H : List Entry) (e : Entry) (cs : List Consumer) → consumers_are H [] cs ≡ true → consumers_are (H ++ e ∷ []) [] cs ≡ true
consumers_stay H e cs are =
    kept buyer_of buyer_number consumer_number consumer_ok H (H ++ e ∷ []) [] cs (λ c ok. enrolled_stays H e c.id CONSUMER c.acct (Some c.nonce) c.key ok) are

merchants_stay : (shelves : List Shelf) (H : List Entry) (e : Entry) (ms : List Merchant) → merchants_are shelves H [] ms ≡ true → merchants_are shelves (H ++ e ∷ []) [] ms ≡ true
merchants_stay shelves H e ms are =
    kept (seller_of shelves) seller_number merchant_number merchant_ok H (H ++ e ∷ []) [] ms (λ m ok. enrolled_stays H e m.id MERCHANT m.acct None m.key ok) are

-- a party that was not enrolled is listed behind the others, with its entry
consumer_comes : (H : List Entry) (c : Consumer) (cs : List Consumer) → party_in H c.id ≡ None → consumers_are H [] cs ≡ true
    → consumers_are (H ++ consumer_entry c ∷ []) [] (cs ++ c ∷ []) ≡ true
consumer_comes H c cs new are =
    let others : AllByRecursion (λ (b : Buyer). (buyer_number b == c.id.0) ≡ false) (map buyer_of cs) =
    none_has buyer_of buyer_number consumer_number consumer_ok H [] cs c.id.0 (λ x. refl) (λ x ok. other_number H x.id c.id CONSUMER x.acct (Some x.nonce) x.key new ok) tt are in
    one_more buyer_of buyer_number consumer_number consumer_ok (H ++ consumer_entry c ∷ []) [] cs c (consumers_stay H (consumer_entry c) cs are) (new_consumer H c new)
    (no_place (λ (b : Buyer). buyer_number b == c.id.0) (map buyer_of cs) others)

merchant_comes : (shelves : List Shelf) (H : List Entry) (m : Merchant) (ms : List Merchant) → party_in H m.id ≡ None → merchants_are shelves H [] ms ≡ true
    → merchants_are shelves (H ++ merchant_entry m ∷ []) [] (ms ++ m ∷ []) ≡ true
merchant_comes shelves H m ms new are =
    let others : AllByRecursion (λ (s : Shop). (seller_number s == m.id.0) ≡ false) (map (seller_of shelves) ms) =
    none_has (seller_of shelves) seller_number merchant_number merchant_ok H [] ms m.id.0 (λ x. refl) (λ x ok. other_number H x.id m.id MERCHANT x.acct None x.key new ok) tt are in
    one_more (seller_of shelves) seller_number merchant_number merchant_ok (H ++ merchant_entry m ∷ []) [] ms m (merchants_stay shelves H (merchant_entry m) ms are) (new_merchant H m new)
    (no_place (λ (s : Shop). seller_number s == m.id.0) (map (seller_of shelves) ms) others)

-- ---- a script

-- what a script says is so
script_sound : StaysLegalUnder → (shelves : List Shelf) (lines : List (List ℕ)) (said : Setting) → ScriptSays lines (Ok said) → IsSound shelves said
script_sound stays shelves = script_keeps (IsSound shelves) (record {
  start = λ head cap some most. record {
    some = some;
    most = most;
    within = none cap;
    legal = record { legal = record { each = λ k below. absurd (omega arith) }; each = tt };
    consumers = refl;
    merchants = refl;
  };
  consumer = λ s c may is.
      let new : party_in s.entries c.id ≡ None = is_none_is (party_in s.entries c.id) may.0.0.3 in
      record {
        some = is.some;
        most = is.most;
        within = one_longer s.entries (consumer_entry c) s.cap may.1;
        legal = stays FIRST_VERSION 0 s.entries (consumer_entry c) is.legal may.0;
        consumers = consumer_comes s.entries c s.consumers new is.consumers;
        merchants = merchants_stay shelves s.entries (consumer_entry c) s.merchants is.merchants;
      };
  merchant = λ s m may is.
      let new : party_in s.entries m.id ≡ None = is_none_is (party_in s.entries m.id) may.0.0.3 in
      record {
        some = is.some;
        most = is.most;
        within = one_longer s.entries (merchant_entry m) s.cap may.1;
        legal = stays FIRST_VERSION 0 s.entries (merchant_entry m) is.legal may.0;
        consumers = consumers_stay s.entries (merchant_entry m) s.consumers is.consumers;
        merchants = merchant_comes shelves s.entries m s.merchants new is.merchants;
      };
  fund = λ s number acct amount may is. record {
    some = is.some;
    most = is.most;
    within = one_longer s.entries (fund_entry number acct amount) s.cap may.1;
    legal = stays FIRST_VERSION 0 s.entries (fund_entry number acct amount) is.legal may.0;
    consumers = consumers_stay s.entries (fund_entry number acct amount) s.consumers is.consumers;
    merchants = merchants_stay shelves s.entries (fund_entry number acct amount) s.merchants is.merchants;
  };
  shelf = λ s x may is. record { some = is.some; most = is.most; within = is.within; legal = is.legal; consumers = is.consumers; merchants = is.merchants };
  does = λ s a is. record { some = is.some; most = is.most; within = is.within; legal = is.legal; consumers = is.consumers; merchants = is.merchants };
})
  where
    none : (n : ℕ) → 0 ≤ n
    none n = omega arith

-- ---- a set-up

-- its wallets are those of the consumers
wallets_are : (H : List Entry) (before : List Buyer) (cs : List Consumer) → wallets_may H before (map wallet_of cs) ≡ consumers_are H before cs
wallets_are H before [] = refl
wallets_are H before (c ∷ cs) =
    ap (λ (b : Bool). consumer_ok H c && is_none (position (λ (x : Buyer). buyer_number x == c.id.0) before) && b) (wallets_are H (before ++ buyer_of c ∷ []) cs)

-- its stalls are those of the merchants
stalls_are : (shelves : List Shelf) (H : List Entry) (before : List Shop) (ms : List Merchant) → stalls_may H before (merchants_of ms shelves) ≡ merchants_are shelves H before ms
stalls_are shelves H before [] = refl
stalls_are shelves H before (m ∷ ms) =
    ap (λ (b : Bool). merchant_ok H m && is_none (position (λ (x : Shop). seller_number x == m.id.0) before) && b) (stalls_are shelves H (before ++ seller_of shelves m ∷ []) ms)

pub set_ups_are_lawful : StaysLegalUnder → SetUpsAreLawful
set_ups_are_lawful stays lines said s says is =
    let sound = script_sound stays said.shelves lines said says in
    record {
      ruling = rw (is.version, is.rate) (inl refl, omega arith);
      some = rw (is.cap) sound.some;
      most = rw (is.cap) (below said.cap sound.most);
      within = rw (is.entries, is.cap) sound.within;
      legal = rw (is.version, is.rate, is.entries) sound.legal;
      consumers = rw (is.entries, is.consumers) (wallets_are said.entries [] said.consumers ∙ sound.consumers);
      merchants = rw (is.entries, is.merchants) (stalls_are said.shelves said.entries [] said.merchants ∙ sound.merchants);
    }
  where
    below : (n : ℕ) → n ≤ MAX_SCRIPT_CAP → n ≤ MAX_CAP
    below n few = omega arith
