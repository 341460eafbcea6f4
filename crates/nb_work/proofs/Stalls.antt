-- A job of selling: what a stop leaves goes on, what each refusal tells, and that what stands is sold.
use Rattle.std.proofs.Common.{◌≡◌, ◌⊎◌, inl, inr, ⊎_elim, ℕ, ◌≤◌, List, [], ◌∷◌, ◌++◌, length, map, append_assoc, Option, Some, None, Ok, Err, refl, sym, ap, subst, ◌∙◌, arith}
use Rattle.std.specs.Prelude.{IfSome, Result}
use Rattle.nb_units.specs.declared.charter.Charter.{Charter}
use Rattle.nb_port.specs.Tells.{DiskTells}
use Rattle.nb_port.specs.Faults.{Rose}
use Rattle.nb_journal.specs.declared.opening.OpenFault.{OpenFault}
use Rattle.nb_journal.specs.declared.opening.OpenFault.TheVariants as opens
use Rattle.nb_journal.specs.Layout.{front_bytes}
use Rattle.nb_journal.specs.Opening.{OpenFails}
use Rattle.nb_journal.specs.Reading.{Holds, IsUnborn, IsDamaged}
use Rattle.nb_journal.specs.Stands.{Stands}
use Rattle.nb_journal.specs.States.{AtRest}
use Rattle.nb_journal.proofs.ReadingLaws.{one_journal, whole_not_damaged, unborn_is_neither}
use Rattle.nb_vault.proofs.Founding.{told_of}
use Rattle.nb_price.specs.Products.{Product}
use Rattle.nb_groups.specs.Offers.{Tariff}
use Rattle.nb_stall.specs.Head.{stall_of}
use Rattle.nb_stall.specs.Spelling.{item_bytes}
use Rattle.nb_merchant.specs.Shop.{Shop, new_shop}
use Rattle.nb_merchant.specs.Keeping.{IsKept, restarted}
use Rattle.nb_merchant.specs.Laws.{kept_bytes}
use Rattle.nb_sell.specs.declared.ended.SellEnd.{SellEnd}
use Rattle.nb_sell.specs.declared.ended.SellEnd.TheVariants as ends
use Rattle.nb_sell.specs.Run.{kept, outset}
use Rattle.nb_sell.specs.Sold.{Sold}
use Rattle.nb_sell.proofs.NextTime.{goes_on_since, moves_on, stays_kept}
use Rattle.nb_sell.proofs.Within.{ended_holds, full_is_full}
use Rattle.nb_sell.proofs.Faults.{NoneFell, none_fell, house_rose, disk_rose}
use Rattle.nb_link.specs.Link.{LinkSeen}
use Rattle.nb_commands.specs.declared.ending.Ending.{Ending}
use Rattle.nb_commands.specs.declared.ending.TheConstants.{CLEAN, OUT_OF_MEMORY, DISK_FAILED, NO_JOURNAL, PORT_FAILED, JOURNAL_FULL}
use Rattle.nb_commands.specs.Ending.{at_no_place}
use Rattle.nb_work.specs.declared.selling.Stop.{Stop}
use Rattle.nb_work.specs.declared.selling.Stop.TheVariants as stops
use Rattle.nb_work.specs.Buying.{not_opened}
use Rattle.nb_work.specs.Selling.{Outside, Standing, Sale, AreSold, IsLastFor, IsNoStall, LeavesAs, SoldWith, StopsFor, standing, status_of, stop_for, with_link}
use Rattle.nb_work.specs.Laws.{GoesOnIn, IsFilled, IsStall, NoneFails, SalesGoOn, SalesAreTold, SalesComplete}

-- ---- a stop

module _ {D : Type 0} (tells : DiskTells D) where
  none_follow : (first last : Standing D) (all : List (Sale D)) → all ≡ [] → AreSold tells first all last → last ≡ first
  none_follow first last [] is are = are
  none_follow first last (s ∷ all) is are = absurd cc

  pub goes_on_in : (first last : Standing D) (all : List (Sale D)) (stop : Stop) (are : AreSold tells first all last) → StopsFor all stop → (front : List ℕ) → AtRest tells front (kept_bytes first.shop) first.journal → IsKept first.shop
      → (t : ℕ) (image : List ℕ) → t ≤ tells.moment first.journal.disk → tells.left last.journal.disk t image → tells.left first.journal.disk t image ⊎ GoesOnIn tells front image first all last are
  goes_on_in first last [] stop are why front rest is t image le left = inl (subst (λ (x : Standing D). tells.left x.journal.disk t image) are left)
  goes_on_in first last (s ∷ all) stop are why front rest is t image le left =
      by (behind s.end refl (λ whys rests iss les. goes_on_in s.behind last all stop are.1 whys front rests iss t image les left))
    where
      Onward : Type 0
      Onward =
          StopsFor all stop → AtRest tells front (kept_bytes s.behind.shop) s.behind.journal → IsKept s.behind.shop → t ≤ tells.moment s.behind.journal.disk
          → tells.left s.behind.journal.disk t image ⊎ GoesOnIn tells front image s.behind all last are.1

      here : tells.left s.behind.journal.disk t image → tells.left first.journal.disk t image ⊎ GoesOnIn tells front image first (s ∷ all) last are
      here past =
          ⊎_elim (λ earlier. inl earlier) (λ on. inr (inl on))
          (goes_on_since tells (with_link first s.given) (with_link s.behind s.taken) s.end are.0 front rest is t image le past)

      by : tells.left s.behind.journal.disk t image ⊎ GoesOnIn tells front image s.behind all last are.1 → tells.left first.journal.disk t image ⊎ GoesOnIn tells front image first (s ∷ all) last are
      by found = ⊎_elim here (λ on. inr (inr on)) found

      last_one : (why : Stop) → stop_for s.end ≡ Some why → tells.left s.behind.journal.disk t image
      last_one reason found =
          let none = subst (λ (o : Option Stop). IsLastFor o all stop (StopsFor all stop)) found why in
          subst (λ (x : Standing D). tells.left x.journal.disk t image) (none_follow s.behind last all none.0 are.1) left

      behind : (end : SellEnd) → s.end ≡ end → Onward → tells.left s.behind.journal.disk t image ⊎ GoesOnIn tells front image s.behind all last are.1
      behind ends.Ended ended onward =
          let sold = subst (λ (e : SellEnd). Sold tells (with_link first s.given) (with_link s.behind s.taken) e) ended are.0 in
          let stays = stays_kept tells (with_link first s.given) (with_link s.behind s.taken) ends.Ended sold tt front rest is in
          let later = moves_on tells (with_link first s.given) (with_link s.behind s.taken) sold front rest in
          onward (subst (λ (o : Option Stop). IsLastFor o all stop (StopsFor all stop)) (ap stop_for ended) why) stays.0 stays.1 (omega (arith, le, later))
      behind ends.ServerFault ended onward = inl (last_one stops.ServerFault (ap stop_for ended))
      behind (ends.DiskFault before after) ended onward = inl (last_one stops.DiskFault (ap stop_for ended))
      behind (ends.Full cap) ended onward = inl (last_one stops.Full (ap stop_for ended))
      behind ends.NoMemory ended onward = inl (last_one stops.NoMemory (ap stop_for ended))

  pub sales_go_on : ((d : D) (c : List ℕ) → tells.left d (tells.moment d) c → tells.allowed d c) → SalesGoOn tells
  sales_go_on only_now shelf offers old new stop s image left =
      let rest = subst (λ (xs : List (List ℕ)). AtRest tells (front_bytes s.cap s.charter) xs s.opened) (sym s.kept) s.rest in
      ⊎_elim
      (λ past. inl (⊎_elim (only_now old.disk image) (λ now. now) (s.unwritten.time.each (tells.moment old.disk) image (omega arith) past)))
      (λ on. inr on)
      (goes_on_in (standing s.opened s.shop old.house old.worker.clock) s.last s.serves.sales stop s.serves.are s.serves.why (front_bytes s.cap s.charter) rest s.is
      (tells.moment old.disk) image s.unwritten.time.later (subst (λ (d : D). tells.left d (tells.moment old.disk) image) s.handed_back left))

-- ---- what is told of faults

-- the counts that rose where it stopped for this reason
abbrev RoseFor : {D : Type 0} → DiskTells D → Stop → Standing D → Standing D → Type 0
RoseFor tells stops.ServerFault first last = Rose first.house.read_faults last.house.read_faults ⊎ Rose first.house.write_faults last.house.write_faults
RoseFor tells stops.DiskFault first last = Rose (tells.faults first.journal.disk) (tells.faults last.journal.disk)
RoseFor tells stops.Closed first last = Unit {0}
RoseFor tells stops.PortFault first last = Unit {0}
RoseFor tells stops.Full first last = Unit {0}
RoseFor tells stops.NoMemory first last = Unit {0}

module _ {D : Type 0} (tells : DiskTells D) where
  rose_earlier : (stop : Stop) (first mid last : Standing D) → NoneFell tells first.journal.disk mid.journal.disk first.house mid.house → RoseFor tells stop mid last → RoseFor tells stop first last
  rose_earlier stops.ServerFault first mid last none rose = ⊎_elim (λ reads. inl (omega (arith, reads, none.reads))) (λ writes. inr (omega (arith, writes, none.writes))) rose
  rose_earlier stops.DiskFault first mid last none rose = omega (arith, rose, none.disk)
  rose_earlier stops.Closed first mid last none rose = tt
  rose_earlier stops.PortFault first mid last none rose = tt
  rose_earlier stops.Full first mid last none rose = tt
  rose_earlier stops.NoMemory first mid last none rose = tt

  of_port : (stop : Stop) (first last : Standing D) → (stop ≡ stops.Closed) ⊎ (stop ≡ stops.PortFault) → RoseFor tells stop first last
  of_port stop first last (inl is) = subst (λ (x : Stop). RoseFor tells x first last) (sym is) tt
  of_port stop first last (inr is) = subst (λ (x : Stop). RoseFor tells x first last) (sym is) tt

  -- behind one link that selling stopped at
  rose_here : (stop : Stop) (first : Standing D) (s : Sale D) (end : SellEnd) → Sold tells (with_link first s.given) (with_link s.behind s.taken) end → stop_for end ≡ Some stop → RoseFor tells stop first s.behind
  rose_here stop first s ends.Ended sold is = absurd cc
  rose_here stop first s ends.ServerFault sold is = subst (λ (x : Stop). RoseFor tells x first s.behind) (same stops.ServerFault stop is) (house_rose tells (with_link first s.given) (with_link s.behind s.taken) sold)
    where
      same : (a b : Stop) → ◌≡◌ {A = Option Stop} (Some a) (Some b) → a ≡ b
      same a b e = cc
  rose_here stop first s (ends.DiskFault before after) sold is = subst (λ (x : Stop). RoseFor tells x first s.behind) (same stops.DiskFault stop is) (disk_rose tells (with_link first s.given) (with_link s.behind s.taken) before after sold)
    where
      same : (a b : Stop) → ◌≡◌ {A = Option Stop} (Some a) (Some b) → a ≡ b
      same a b e = cc
  rose_here stop first s (ends.Full cap) sold is = subst (λ (x : Stop). RoseFor tells x first s.behind) (same stops.Full stop is) tt
    where
      same : (a b : Stop) → ◌≡◌ {A = Option Stop} (Some a) (Some b) → a ≡ b
      same a b e = cc
  rose_here stop first s ends.NoMemory sold is = subst (λ (x : Stop). RoseFor tells x first s.behind) (same stops.NoMemory stop is) tt
    where
      same : (a b : Stop) → ◌≡◌ {A = Option Stop} (Some a) (Some b) → a ≡ b
      same a b e = cc

  -- where a count is told, it rose
  rose_in : (first last : Standing D) (all : List (Sale D)) (stop : Stop) → AreSold tells first all last → StopsFor all stop → RoseFor tells stop first last
  rose_in first last [] stop are why = of_port stop first last why
  rose_in first last (s ∷ all) stop are why = by s.end refl (λ rest. rose_in s.behind last all stop are.1 rest)
    where
      others : (reason : Stop) → stop_for s.end ≡ Some reason → RoseFor tells stop first last
      others reason is =
          let alone = subst (λ (o : Option Stop). IsLastFor o all stop (StopsFor all stop)) is why in
          subst (λ (x : Standing D). RoseFor tells stop first x) (sym (none_follow tells s.behind last all alone.0 are.1))
          (rose_here stop first s s.end are.0 (is ∙ ap (λ (x : Stop). Some x) alone.1))

      by : (end : SellEnd) → s.end ≡ end → (StopsFor all stop → RoseFor tells stop s.behind last) → RoseFor tells stop first last
      by ends.Ended ended onward =
          rose_earlier stop first s.behind last
          (none_fell tells (with_link first s.given) (with_link s.behind s.taken) (subst (λ (e : SellEnd). Sold tells (with_link first s.given) (with_link s.behind s.taken) e) ended are.0))
          (onward (subst (λ (o : Option Stop). IsLastFor o all stop (StopsFor all stop)) (ap stop_for ended) why))
      by ends.ServerFault ended onward = others stops.ServerFault (ap stop_for ended)
      by (ends.DiskFault before after) ended onward = others stops.DiskFault (ap stop_for ended)
      by (ends.Full cap) ended onward = others stops.Full (ap stop_for ended)
      by ends.NoMemory ended onward = others stops.NoMemory (ap stop_for ended)

-- a record of what holds of an ending
record ToldBy {D : Type 0} (tells : DiskTells D) (old new : Outside D) (status : ℕ) : Type 0 where
  port : status ≡ PORT_FAILED → Rose old.worker.port.faults new.worker.port.faults ⊎ Rose old.house.read_faults new.house.read_faults ⊎ Rose old.house.write_faults new.house.write_faults
  disk : status ≡ DISK_FAILED → Rose (tells.faults old.disk) (tells.faults new.disk)
  clean : status ≡ CLEAN → new.worker.port.left ≡ 0

module _ {D : Type 0} (tells : DiskTells D) (shelf : List Product) (offers : Option Tariff) (old new : Outside D) where
  by_fault : (fault : OpenFault) → OpenFails tells old.disk new.disk fault → ToldBy tells old new (not_opened fault).status
  by_fault (opens.Unborn found) fails = record { port = λ is. absurd (omega (arith, is)); disk = λ is. absurd (omega (arith, is)); clean = λ is. absurd (omega (arith, is)) }
  by_fault (opens.Damaged item place) fails = record { port = λ is. absurd (omega (arith, is)); disk = λ is. absurd (omega (arith, is)); clean = λ is. absurd (omega (arith, is)) }
  by_fault (opens.DiskFault before after) fails = record {
    port = λ is. absurd (omega (arith, is));
    disk = λ is. subst (λ (x : ℕ × ℕ). Rose x.0 x.1) (λ i. (fails.0 i, fails.1 i)) fails.2;
    clean = λ is. absurd (omega (arith, is));
  }
  by_fault opens.NoMemory fails = record { port = λ is. absurd (omega (arith, is)); disk = λ is. absurd (omega (arith, is)); clean = λ is. absurd (omega (arith, is)) }

  by_stop : (stop : Stop) (s : SoldWith tells shelf offers old new stop) → LeavesAs old.worker.port new.worker.port stop → RoseFor tells stop (standing s.opened s.shop old.house old.worker.clock) s.last → ToldBy tells old new (status_of stop)
  by_stop stops.Closed s leaves rose = record { port = λ is. absurd (omega (arith, is)); disk = λ is. absurd (omega (arith, is)); clean = λ is. leaves }
  by_stop stops.PortFault s leaves rose = record { port = λ is. inl leaves.1; disk = λ is. absurd (omega (arith, is)); clean = λ is. absurd (omega (arith, is)) }
  by_stop stops.ServerFault s leaves rose = record {
    port = λ is. inr (subst (λ (x : LinkSeen). Rose old.house.read_faults x.read_faults ⊎ Rose old.house.write_faults x.write_faults) (sym s.house) rose);
    disk = λ is. absurd (omega (arith, is));
    clean = λ is. absurd (omega (arith, is));
  }
  by_stop stops.DiskFault s leaves rose = record {
    port = λ is. absurd (omega (arith, is));
    disk = λ is. omega (arith, rose, s.counted, ap tells.faults s.handed_back);
    clean = λ is. absurd (omega (arith, is));
  }
  by_stop stops.Full s leaves rose = record { port = λ is. absurd (omega (arith, is)); disk = λ is. absurd (omega (arith, is)); clean = λ is. absurd (omega (arith, is)) }
  by_stop stops.NoMemory s leaves rose = record { port = λ is. absurd (omega (arith, is)); disk = λ is. absurd (omega (arith, is)); clean = λ is. absurd (omega (arith, is)) }

  by_sold : (stop : Stop) → SoldWith tells shelf offers old new stop → ToldBy tells old new (status_of stop)
  by_sold stop s =
      by_stop stop s s.serves.leaves (rose_in tells (standing s.opened s.shop old.house old.worker.clock) s.last s.serves.sales stop s.serves.are s.serves.why)

  same_ending : (ending other : Ending) → ending ≡ other → ToldBy tells old new other.status → ToldBy tells old new ending.status
  same_ending ending other is told = subst (λ (e : Ending). ToldBy tells old new e.status) (sym is) told

pub sales_are_told : {D : Type 0} (tells : DiskTells D) → SalesAreTold tells
sales_are_told {D} tells shelf offers old new ending sells = (told.port, told.disk, told.clean)
  where
    told : ToldBy tells old new ending.status
    told = elim sells [
      | inl failed ↦ same_ending tells shelf offers old new ending (not_opened failed.0) failed.1 (by_fault tells shelf offers old new failed.0 failed.2)
      | inr (inl bad) ↦ same_ending tells shelf offers old new ending (at_no_place NO_JOURNAL) bad.1 (record { port = λ is. absurd (omega (arith, is)); disk = λ is. absurd (omega (arith, is)); clean = λ is. absurd (omega (arith, is)) })
      | inr (inr (inl starved)) ↦ same_ending tells shelf offers old new ending (at_no_place OUT_OF_MEMORY) starved.0 (record { port = λ is. absurd (omega (arith, is)); disk = λ is. absurd (omega (arith, is)); clean = λ is. absurd (omega (arith, is)) })
      | inr (inr (inr sold)) ↦ same_ending tells shelf offers old new ending (at_no_place (status_of sold.0)) sold.1 (by_sold tells shelf offers old new sold.0 sold.2)
    ]

-- ---- a stall that is full

-- the journal is at rest with some items more, as many as may be
record Filled {D : Type 0} (tells : DiskTells D) (front : List ℕ) (items : List (List ℕ)) (last : Standing D) (cap : ℕ) : Type 0 where
  more : List (List ℕ)
  rest : AtRest tells front (items ++ more) last.journal
  full : length (items ++ more) ≡ cap

module _ {D : Type 0} (tells : DiskTells D) where
  port_not_full : (stop : Stop) → (stop ≡ stops.Closed) ⊎ (stop ≡ stops.PortFault) → stop ≡ stops.Full → ⊥
  port_not_full stop (inl is) full = cc
  port_not_full stop (inr is) full = cc

  filled_behind : (front : List ℕ) (items more : List (List ℕ)) (last : Standing D) (cap cap' : ℕ) → cap' ≡ cap → Filled tells front (items ++ more) last cap' → Filled tells front items last cap
  filled_behind front items more last cap cap' same f = record {
    more = more ++ f.more;
    rest = subst (λ (xs : List (List ℕ)). AtRest tells front xs last.journal) (append_assoc items more f.more) f.rest;
    full = ap length (sym (append_assoc items more f.more)) ∙ f.full ∙ same;
  }

  full_in : (first last : Standing D) (all : List (Sale D)) (stop : Stop) → AreSold tells first all last → StopsFor all stop → stop ≡ stops.Full → (front : List ℕ) (items : List (List ℕ)) → AtRest tells front items first.journal
      → Filled tells front items last first.journal.cap
  full_in first last [] stop are why full front items rest = absurd (port_not_full stop why full)
  full_in first last (s ∷ all) stop are why full front items rest =
      by s.end refl (λ whys now rests. full_in s.behind last all stop are.1 whys full front now rests)
    where
      alone : (reason : Stop) → stop_for s.end ≡ Some reason → (all ≡ []) × (reason ≡ stop)
      alone reason is = subst (λ (o : Option Stop). IsLastFor o all stop (StopsFor all stop)) is why

      by : (end : SellEnd) → s.end ≡ end
          → (StopsFor all stop → (now : List (List ℕ)) → AtRest tells front now s.behind.journal → Filled tells front now last s.behind.journal.cap)
          → Filled tells front items last first.journal.cap
      by ends.Ended is onward =
          let sold = subst (λ (e : SellEnd). Sold tells (with_link first s.given) (with_link s.behind s.taken) e) is are.0 in
          let holds = ended_holds tells (with_link first s.given) (with_link s.behind s.taken) sold front items rest in
          filled_behind front items holds.0 last first.journal.cap s.behind.journal.cap holds.2
          (onward (subst (λ (o : Option Stop). IsLastFor o all stop (StopsFor all stop)) (ap stop_for is) why) (items ++ holds.0) holds.1)
      by (ends.Full cap) is onward =
          let sold = subst (λ (e : SellEnd). Sold tells (with_link first s.given) (with_link s.behind s.taken) e) is are.0 in
          let holds = full_is_full tells (with_link first s.given) (with_link s.behind s.taken) cap sold front items rest in
          subst (λ (x : Standing D). Filled tells front items x first.journal.cap) (sym (none_follow tells s.behind last all (alone stops.Full (ap stop_for is)).0 are.1))
          (record { more = map item_bytes (kept (outset first.shop) sold.ended.served.acts); rest = holds.0; full = holds.1 ∙ holds.3 })
      by ends.ServerFault is onward = absurd (apart stop (alone stops.ServerFault (ap stop_for is)).1 full)
        where
          apart : (x : Stop) → stops.ServerFault ≡ x → x ≡ stops.Full → ⊥
          apart x e f = cc
      by (ends.DiskFault before after) is onward = absurd (apart stop (alone stops.DiskFault (ap stop_for is)).1 full)
        where
          apart : (x : Stop) → stops.DiskFault ≡ x → x ≡ stops.Full → ⊥
          apart x e f = cc
      by ends.NoMemory is onward = absurd (apart stop (alone stops.NoMemory (ap stop_for is)).1 full)
        where
          apart : (x : Stop) → stops.NoMemory ≡ x → x ≡ stops.Full → ⊥
          apart x e f = cc

-- ---- a stall that stands

some_so : {A : Type 0} (o : Option A) (P Q : A → Type 0) → ((x : A) → P x → Q x) → IfSome o P → IfSome o Q
some_so None P Q each is = tt
some_so (Some x) P Q each is = each x is

module _ {D : Type 0} (tells : DiskTells D) (shelf : List Product) (offers : Option Tariff) (old new : Outside D) (image : List ℕ) (cap : ℕ) (items : List (List ℕ)) (shop : Shop) (content : tells.content old.disk ≡ Some image) (is : IsStall shelf offers image cap items shop)
    (none : NoneFails tells old new) where
  told : (P : List ℕ → Type 0) → IfSome (tells.content old.disk) P → P image
  told P some = told_of (tells.content old.disk) P image content some

  -- it is opened, or there was no memory
  opens_so : (fault : OpenFault) → OpenFails tells old.disk new.disk fault → not_opened fault ≡ at_no_place OUT_OF_MEMORY
  opens_so (opens.Unborn found) fails = absurd ((unborn_is_neither image found is.charter cap 0 0 items (told (λ (x : List ℕ). IsUnborn x found) fails.1)).0 is.holds)
  opens_so (opens.Damaged item place) fails = absurd (whole_not_damaged image is.charter cap item place items is.holds (told (λ (x : List ℕ). IsDamaged x item place) fails))
  opens_so (opens.DiskFault before after) fails = absurd (none.disk (subst (λ (x : ℕ × ℕ). Rose x.0 x.1) (λ i. (fails.0 i, fails.1 i)) fails.2))
  opens_so opens.NoMemory fails = refl

  -- each of its items is one
  all_items : (item : ℕ) → IsNoStall shelf offers image item → ⊥
  all_items item bad =
      let same = one_journal image is.charter bad.charter cap bad.cap items bad.items is.holds bad.holds in
      apart (sym is.starts ∙ ap (λ (x : Charter × List (List ℕ)). restarted (new_shop (stall_of x.0.head) shelf offers) 0 x.1) (λ i. (same.1 i, same.2 i)) ∙ bad.first)
    where
      apart : ◌≡◌ {A = Result Shop ℕ} (Ok shop) (Err item) → ⊥
      apart e = cc

  -- where it is full it holds as many items as it may
  filled : SoldWith tells shelf offers old new stops.Full → IfSome (tells.content new.disk) (IsFilled cap items)
  filled s =
      let same = one_journal image is.charter s.charter cap s.cap items s.items is.holds (told (λ (x : List ℕ). Holds x s.cap s.charter s.items) s.holds) in
      let f = full_in tells (standing s.opened s.shop old.house old.worker.clock) s.last s.serves.sales stops.Full s.serves.are s.serves.why refl (front_bytes s.cap s.charter) s.items s.rest in
      subst (λ (d : D). IfSome (tells.content d) (IsFilled cap items)) (sym s.handed_back)
      (some_so (tells.content s.last.journal.disk) (Stands (front_bytes s.cap s.charter) (s.items ++ f.more)) (IsFilled cap items)
      (λ bytes stands. record {
        charter = s.charter;
        more = f.more;
        stands = subst (λ (x : ℕ × List (List ℕ)). Stands (front_bytes x.0 s.charter) (x.1 ++ f.more) bytes) (λ i. (sym same.0 i, sym same.2 i)) stands;
        full = ap (λ (xs : List (List ℕ)). length (xs ++ f.more)) same.2 ∙ f.full ∙ s.cap_is ∙ sym same.0;
      })
      f.rest.bytes)

  -- nothing stops it but the stall's limit and want of memory
  stops_so : (stop : Stop) → SoldWith tells shelf offers old new stop → LeavesAs old.worker.port new.worker.port stop → ToldBy tells old new (status_of stop)
      → (at_no_place (status_of stop) ≡ at_no_place OUT_OF_MEMORY)
      ⊎ ((at_no_place (status_of stop) ≡ at_no_place JOURNAL_FULL) × IfSome (tells.content new.disk) (IsFilled cap items))
      ⊎ ((at_no_place (status_of stop) ≡ at_no_place CLEAN) × (new.worker.port.left ≡ 0))
  stops_so stops.Closed s leaves by = inr (inr (refl, leaves))
  stops_so stops.PortFault s leaves by = absurd (none.port leaves.1)
  stops_so stops.ServerFault s leaves by = absurd (⊎_elim none.port (λ house. ⊎_elim none.house_reads none.house_writes house) (by.port refl))
  stops_so stops.DiskFault s leaves by = absurd (none.disk (by.disk refl))
  stops_so stops.Full s leaves by = inr (inl (refl, filled s))
  stops_so stops.NoMemory s leaves by = inl refl

pub sales_complete : {D : Type 0} (tells : DiskTells D) → SalesComplete tells
sales_complete {D} tells shelf offers old new ending sells image cap items shop content is none = elim sells [
  | inl failed ↦ inl (failed.1 ∙ opens_so tells shelf offers old new image cap items shop content is none failed.0 failed.2)
  | inr (inl bad) ↦ absurd (all_items tells shelf offers old new image cap items shop content is none bad.0 (told tells shelf offers old new image cap items shop content is none (λ (x : List ℕ). IsNoStall shelf offers x bad.0) bad.2))
  | inr (inr (inl starved)) ↦ inl starved.0
  | inr (inr (inr sold)) ↦
      subst (λ (e : Ending). (e ≡ at_no_place OUT_OF_MEMORY) ⊎ ((e ≡ at_no_place JOURNAL_FULL) × IfSome (tells.content new.disk) (IsFilled cap items)) ⊎ ((e ≡ at_no_place CLEAN) × (new.worker.port.left ≡ 0))) (sym sold.1)
      (stops_so tells shelf offers old new image cap items shop content is none sold.0 sold.2 sold.2.serves.leaves (by_sold tells shelf offers old new sold.0 sold.2))
]
