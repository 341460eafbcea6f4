-- Selling on the links of a port, one behind the other.
use Rattle.std.proofs.Common.{◌≡◌, inl, inr, ℕ, ◌+◌, List, [], ◌∷◌, ◌++◌, length, map, slice_index_or, slice_set, Option, None, Some, refl, sym, ap, subst, ◌∙◌, append_assoc, append-nil, arith}
use Rattle.std.specs.List.{AllByRecursion}
use Rattle.std.proofs.lemmas.List.{length-append, map-append}
use Rattle.nb_port.specs.Tells.{DiskTells}
use Rattle.nb_journal.specs.declared.journal.Journal.{Journal}
use Rattle.nb_journal.specs.States.{AtRest}
use Rattle.nb_merchant.specs.Shop.{Shop}
use Rattle.nb_merchant.specs.Laws.{kept_bytes}
use Rattle.nb_link.specs.Link.{LinkSeen}
use Rattle.nb_link.specs.Port.{PortSeen, GivesLink, FailsToGive, TakesBack, with_first, with_last}
use Rattle.nb_sell.specs.declared.ended.SellEnd.{SellEnd}
use Rattle.nb_sell.specs.declared.ended.SellEnd.TheVariants as ends
use Rattle.nb_sell.specs.Sold.{IsJournalOf, Sold}
use Rattle.nb_server.specs.Served.{with_given, with_taken}
use Rattle.nb_work.specs.declared.selling.Stop.{Stop}
use Rattle.nb_work.specs.declared.selling.Stop.TheVariants as stops
use Rattle.nb_work.specs.Selling.{Standing, Sale, AreSold, GaveAll, IsOfPort, LeavesAs, Serves, StopsFor, IsLastFor, links_given, links_taken, stop_for, with_link}

-- selling on the link ended with that link
abbrev pub GoesOn : {D : Type 0} → Sale D → Type 0
GoesOn s = stop_for s.end ≡ None

-- it is so exactly where it ended by itself
pub goes_on_ended : (end : SellEnd) → stop_for end ≡ None → end ≡ ends.Ended
goes_on_ended ends.Ended on = refl
goes_on_ended ends.ServerFault on = absurd cc
goes_on_ended (ends.DiskFault before after) on = absurd cc
goes_on_ended (ends.Full cap) on = absurd cc
goes_on_ended ends.NoMemory on = absurd cc

-- so many links were sold on, and selling on each ended with that link
pub record SoFar {D : Type 0} (tells : DiskTells D) (first last : Standing D) (old new : PortSeen) (count : ℕ) : Type 0 where
  pub sales : List (Sale D)
  pub are : AreSold tells first sales last
  pub port : GaveAll old new sales
  pub on : AllByRecursion GoesOn sales
  pub number : length sales ≡ count

-- ---- the links

given_none : (told : Option (List LinkSeen)) → told ≡ with_given [] told
given_none None = refl
given_none (Some links) = refl

taken_none : (told : Option (List LinkSeen)) → told ≡ with_taken [] told
taken_none None = refl
taken_none (Some links) = ap Some (sym (append-nil links))

given_more : (gs : List LinkSeen) (g : LinkSeen) (a b c : Option (List LinkSeen)) → a ≡ with_given gs b → b ≡ with_first g c → a ≡ with_given (gs ++ g ∷ []) c
given_more gs g a b None is first = is ∙ ap (with_given gs) first
given_more gs g a b (Some rest) is first = is ∙ ap (with_given gs) first ∙ ap Some (sym (append_assoc gs (g ∷ []) rest))

taken_more : (ts : List LinkSeen) (t : LinkSeen) (a b c : Option (List LinkSeen)) → b ≡ with_taken ts a → c ≡ with_last t b → c ≡ with_taken (ts ++ t ∷ []) a
taken_more ts t None b c is last = last ∙ ap (with_last t) is
taken_more ts t (Some before) b c is last = last ∙ ap (with_last t) is ∙ ap Some (append_assoc before ts (t ∷ []))

all_more : {A : Type 0} (P : A → Type 0) (xs : List A) (x : A) → AllByRecursion P xs → P x → AllByRecursion P (xs ++ x ∷ [])
all_more P [] x all is = (is, tt)
all_more P (y ∷ xs) x all is = (all.0, all_more P xs x all.1 is)

-- ---- at the outset

-- a journal that is at rest with what the merchant started again with is that of the merchant
pub journal_of : {D : Type 0} (tells : DiskTells D) (journal : Journal D) (shop : Shop) (front : List ℕ) (items : List (List ℕ)) → AtRest tells front items journal → kept_bytes shop ≡ items → IsJournalOf tells journal shop
journal_of tells journal shop front items rest kept = (front, subst (λ (xs : List (List ℕ)). AtRest tells front xs journal) (sym kept) rest)

module _ {D : Type 0} (tells : DiskTells D) where
  sold_more : (first mid : Standing D) (sales : List (Sale D)) (s : Sale D) → AreSold tells first sales mid → Sold tells (with_link mid s.given) (with_link s.behind s.taken) s.end → AreSold tells first (sales ++ s ∷ []) s.behind
  sold_more first mid [] s are sold = (subst (λ (x : Standing D). Sold tells (with_link x s.given) (with_link s.behind s.taken) s.end) are sold, refl)
  sold_more first mid (t ∷ sales) s are sold = (are.0, sold_more t.behind mid sales s are.1 sold)

  -- no link was sold on
  pub none_sold : (first : Standing D) (old : PortSeen) → SoFar tells first first old old 0
  none_sold first old = record {
    sales = [];
    are = refl;
    port = record { given = given_none old.coming; taken = taken_none old.taken; out = refl; left = omega arith; count = omega arith };
    on = tt;
    number = refl;
  }

  gave_more : (old mid between after : PortSeen) (sales : List (Sale D)) (s : Sale D) → GaveAll old mid sales → GivesLink mid between s.given → TakesBack between after s.taken → GaveAll old after (sales ++ s ∷ [])
  gave_more old mid between after sales s port gives back =
      let coming : between.coming ≡ after.coming = sym (ap (λ (p : PortSeen). p.coming) back.same) in
      record {
        given = given_more (links_given sales) s.given old.coming mid.coming after.coming port.given (gives.coming ∙ ap (with_first s.given) coming)
            ∙ ap (λ (ls : List LinkSeen). with_given ls after.coming) (sym (map-append (λ (x : Sale D). x.given) sales (s ∷ [])));
        taken = taken_more (links_taken sales) s.taken old.taken between.taken after.taken (gives.taken ∙ port.taken) back.taken
            ∙ ap (λ (ls : List LinkSeen). with_taken ls old.taken) (sym (map-append (λ (x : Sale D). x.taken) sales (s ∷ [])));
        out = omega (arith, port.out, gives.out, back.out);
        left = omega (arith, port.left, gives.left, ap (λ (p : PortSeen). p.left) back.same, length-append sales (s ∷ []));
        count = omega (arith, port.count, gives.count, ap (λ (p : PortSeen). p.faults) back.same);
      }

  -- one more, and the next one is sold on
  pub one_sold : (first mid : Standing D) (old port between after : PortSeen) (count : ℕ) (s : Sale D) → SoFar tells first mid old port count → GivesLink port between s.given → TakesBack between after s.taken
      → Sold tells (with_link mid s.given) (with_link s.behind s.taken) s.end → stop_for s.end ≡ None → SoFar tells first s.behind old after (count + 1)
  one_sold first mid old port between after count s so gives back sold on = record {
    sales = so.sales ++ s ∷ [];
    are = sold_more first mid so.sales s so.are sold;
    port = gave_more old port between after so.sales s so.port gives back;
    on = all_more GoesOn so.sales s so.on on;
    number = omega (arith, so.number, length-append so.sales (s ∷ []));
  }

  -- ---- why nothing more is sold

  last_for : (behind : Option Stop) (sales : List (Sale D)) (stop : Stop) (P : Type 0) → behind ≡ None → P → IsLastFor behind sales stop P
  last_for None sales stop P is on = on
  last_for (Some why) sales stop P is on = absurd cc

  stops_port : (sales : List (Sale D)) (stop : Stop) → AllByRecursion GoesOn sales → IsOfPort stop → StopsFor sales stop
  stops_port [] stop on is = is
  stops_port (s ∷ sales) stop on is = last_for (stop_for s.end) sales stop (StopsFor sales stop) on.0 (stops_port sales stop on.1 is)

  stops_here : (behind : Option Stop) (stop : Stop) (P : Type 0) → behind ≡ Some stop → IsLastFor {D = D} behind [] stop P
  stops_here None stop P is = absurd cc
  stops_here (Some why) stop P is = (refl, cc)

  stops_link : (sales : List (Sale D)) (s : Sale D) (stop : Stop) → AllByRecursion GoesOn sales → stop_for s.end ≡ Some stop → StopsFor (sales ++ s ∷ []) stop
  stops_link [] s stop on is = stops_here (stop_for s.end) stop (StopsFor {D = D} [] stop) is
  stops_link (t ∷ sales) s stop on is = last_for (stop_for t.end) (sales ++ s ∷ []) stop (StopsFor (sales ++ s ∷ []) stop) on.0 (stops_link sales s stop on.1 is)

  -- behind a link that selling stopped at
  leaves_none : (old new : PortSeen) (end : SellEnd) (stop : Stop) → stop_for end ≡ Some stop → LeavesAs old new stop
  leaves_none old new ends.Ended stop is = absurd cc
  leaves_none old new ends.ServerFault stop is = subst (LeavesAs old new) (same stops.ServerFault stop is) tt
    where
      same : (a b : Stop) → ◌≡◌ {A = Option Stop} (Some a) (Some b) → a ≡ b
      same a b e = cc
  leaves_none old new (ends.DiskFault before after) stop is = subst (LeavesAs old new) (same stops.DiskFault stop is) tt
    where
      same : (a b : Stop) → ◌≡◌ {A = Option Stop} (Some a) (Some b) → a ≡ b
      same a b e = cc
  leaves_none old new (ends.Full cap) stop is = subst (LeavesAs old new) (same stops.Full stop is) tt
    where
      same : (a b : Stop) → ◌≡◌ {A = Option Stop} (Some a) (Some b) → a ≡ b
      same a b e = cc
  leaves_none old new ends.NoMemory stop is = subst (LeavesAs old new) (same stops.NoMemory stop is) tt
    where
      same : (a b : Stop) → ◌≡◌ {A = Option Stop} (Some a) (Some b) → a ≡ b
      same a b e = cc

  pub stopped_at : (first mid : Standing D) (old port between after : PortSeen) (count : ℕ) (s : Sale D) (stop : Stop) → SoFar tells first mid old port count → GivesLink port between s.given → TakesBack between after s.taken
      → Sold tells (with_link mid s.given) (with_link s.behind s.taken) s.end → stop_for s.end ≡ Some stop → Serves tells first s.behind old after stop
  stopped_at first mid old port between after count s stop so gives back sold is = record {
    sales = so.sales ++ s ∷ [];
    are = sold_more first mid so.sales s so.are sold;
    port = gave_more old port between after so.sales s so.port gives back;
    why = stops_link so.sales s stop so.on is;
    leaves = leaves_none old after s.end stop is;
  }

  -- the port has no link left
  pub closed : (first last : Standing D) (old new : PortSeen) (count : ℕ) → SoFar tells first last old new count → new.left ≡ 0 → Serves tells first last old new stops.Closed
  closed first last old new count so none = record { sales = so.sales; are = so.are; port = so.port; why = stops_port so.sales stops.Closed so.on (inl refl); leaves = none }

  -- as many links were sold on as it had
  pub all_sold : (first last : Standing D) (old new : PortSeen) (count : ℕ) → SoFar tells first last old new count → count ≡ old.left → Serves tells first last old new stops.Closed
  all_sold first last old new count so all = closed first last old new count so (omega (arith, so.port.left, so.number, all))

  -- it failed
  pub port_failed : (first last : Standing D) (old mid new : PortSeen) (count : ℕ) → SoFar tells first last old mid count → FailsToGive mid new → Serves tells first last old new stops.PortFault
  port_failed first last old mid new count so fails = record {
    sales = so.sales;
    are = so.are;
    port = record {
      given = so.port.given ∙ ap (with_given (links_given so.sales)) (sym (ap (λ (p : PortSeen). p.coming) fails.same));
      taken = ap (λ (p : PortSeen). p.taken) fails.same ∙ so.port.taken;
      out = ap (λ (p : PortSeen). p.out) fails.same ∙ so.port.out;
      left = omega (arith, so.port.left, ap (λ (p : PortSeen). p.left) fails.same);
      count = omega (arith, so.port.count, fails.count);
    };
    why = stops_port so.sales stops.PortFault so.on (inr refl);
    leaves = (omega (arith, fails.left, ap (λ (p : PortSeen). p.left) fails.same), omega (arith, so.port.count, fails.rose));
  }

-- ---- the one worker

-- a list of one is what stands first in it
pub one_there : {A B : Type 0} (f : A → B) (xs : List A) (x : A) → length xs ≡ 1 → x ≡ slice_index_or xs 0 x → map f xs ≡ f x ∷ []
one_there f [] x one there = absurd (omega (arith, one))
one_there f (y ∷ []) x one there = ap (λ z. f z ∷ []) (sym there)
one_there f (y ∷ z ∷ xs) x one there = absurd (omega (arith, one))

-- and what is put there
pub one_put : {A B : Type 0} (f : A → B) (xs : List A) (x : A) → length xs ≡ 1 → map f (slice_set xs 0 x) ≡ f x ∷ []
one_put f [] x one = absurd (omega (arith, one))
one_put f (y ∷ []) x one = refl
one_put f (y ∷ z ∷ xs) x one = absurd (omega (arith, one))
