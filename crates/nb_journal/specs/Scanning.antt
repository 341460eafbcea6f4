-- For the contracts of private functions alone: the steps of an opening.
use Rattle.std.specs.Prelude.{◌≡◌, ℕ, ◌+◌, ◌-◌, ◌*◌, ◌≤◌, ◌<◌, ⊤, List, [], ◌∷◌, ◌++◌, length, take, drop, Option, IfSome}
use Rattle.std.specs.List.{flat_map, AllByRecursion}
use Rattle.nb_units.specs.Fields.{be4}
use Rattle.nb_units.specs.declared.charter.Charter.{Charter}
use Rattle.nb_port.specs.Disk.{Only}
use Rattle.nb_port.specs.Faults.{Rose}
use Rattle.nb_journal.specs.declared.opening.record.LeadRead.{LeadRead}
use Rattle.nb_journal.specs.declared.opening.record.LeadRead.TheVariants as leads
use Rattle.nb_journal.specs.declared.opening.record.BodyRead.{BodyRead}
use Rattle.nb_journal.specs.declared.opening.record.BodyRead.TheVariants as bodies
use Rattle.nb_journal.specs.declared.opening.items.ItemsRead.{ItemsRead}
use Rattle.nb_journal.specs.declared.opening.items.ItemsRead.TheVariants as scans
use Rattle.nb_journal.specs.declared.opening.front.Terms.{Terms}
use Rattle.nb_journal.specs.declared.opening.front.FrontRead.{FrontRead}
use Rattle.nb_journal.specs.declared.opening.front.FrontRead.TheVariants as fronts
use Rattle.nb_journal.specs.declared.opening.record.RecordRead.{RecordRead}
use Rattle.nb_journal.specs.declared.opening.record.RecordRead.TheVariants as records
use Rattle.nb_journal.specs.declared.limits.TheConstants.{FRONT, AROUND, LEAD, MAX_ITEM}
use Rattle.nb_journal.specs.Layout.{IsMagic, terms, front_bytes, AreTerms, open_gate, IsItem, item_bytes}
use Rattle.nb_journal.specs.Reading.{Shut, Item, Broken, first_of, Whole, Fault, items_from, found_in, NoFront, IsUnborn, IsDamaged}
use Rattle.nb_journal.specs.declared.opening.contents.ContentsRead.{ContentsRead}
use Rattle.nb_journal.specs.declared.opening.contents.ContentsRead.TheVariants as contents

-- what stands from a gate on, where these are its first five bytes or all there are
abbrev pub LeadIs : List ℕ → LeadRead → Type 0
LeadIs bytes leads.Shut = (xs : List ℕ) → bytes ≡ take LEAD xs → first_of xs ≡ Shut
LeadIs bytes leads.Broken = (xs : List ℕ) → bytes ≡ take LEAD xs → first_of xs ≡ Broken
LeadIs bytes (leads.Sized n) = (n ≤ MAX_ITEM) × (bytes ≡ open_gate ∷ be4 n)
LeadIs bytes leads.Failed = ⊥

-- what stands from a place of the content on
abbrev pub LeadGives : ℕ → ℕ → Option (List ℕ) → ℕ → LeadRead → Type 0
LeadGives before after content place leads.Shut = IfSome content (λ image. first_of (drop place image) ≡ Shut)
LeadGives before after content place leads.Broken = IfSome content (λ image. first_of (drop place image) ≡ Broken)
LeadGives before after content place (leads.Sized n) = (n ≤ MAX_ITEM) × IfSome content (λ image. take LEAD (drop place image) ≡ open_gate ∷ be4 n)
LeadGives before after content place leads.Failed = Rose before after

-- the bytes of an item, where these are its own or all there are
abbrev pub BodyFrom : List ℕ → ℕ → BodyRead → Type 0
BodyFrom bytes n (bodies.Got item) = (length bytes ≡ n) × (item ≡ bytes)
BodyFrom bytes n bodies.Short = length bytes < n
BodyFrom bytes n bodies.Failed = ⊥
BodyFrom bytes n bodies.NoMemory = ⊤

-- the bytes of an item, whose length was read before
abbrev pub BodyGives : ℕ → ℕ → Option (List ℕ) → ℕ → ℕ → BodyRead → Type 0
BodyGives before after content place n (bodies.Got item) = (length item ≡ n) × IfSome content (λ image. take n (drop place image) ≡ item)
BodyGives before after content place n bodies.Short = IfSome content (λ image. length (drop place image) < n)
BodyGives before after content place n bodies.Failed = Rose before after
BodyGives before after content place n bodies.NoMemory = ⊤

-- the record whose gate stands at the place of this image is read as an item, and what follows it
pub record ItemAt (image : List ℕ) (place : ℕ) (item : List ℕ) : Type 0 where
  pub seen : first_of (drop place image) ≡ Item item (drop (place + (length item + 5)) image)
  pub bytes : drop place image ≡ item_bytes item ++ drop (place + (length item + 5)) image

-- the record whose gate stands at a place of the content
abbrev pub RecordGives : ℕ → ℕ → Option (List ℕ) → ℕ → RecordRead → Type 0
RecordGives before after content place records.Shut = IfSome content (λ image. first_of (drop place image) ≡ Shut)
RecordGives before after content place (records.Item item) = IsItem item × IfSome content (λ image. ItemAt image place item)
RecordGives before after content place records.Broken = IfSome content (λ image. first_of (drop place image) ≡ Broken)
RecordGives before after content place records.Failed = Rose before after
RecordGives before after content place records.NoMemory = ⊤

-- behind these items, with the gate at the place: what is still to be read, and the bytes that were
pub record ReadSoFar (image : List ℕ) (cap : ℕ) (items : List (List ℕ)) (place : ℕ) : Type 0 where
  pub left : items_from (cap - length items) items place (drop place image) ≡ items_from cap [] FRONT (drop FRONT image)
  pub bytes : drop FRONT image ≡ flat_map item_bytes items ++ drop place image

-- these are all the items
pub record AllRead (image : List ℕ) (cap : ℕ) (items : List (List ℕ)) (place : ℕ) : Type 0 where
  pub found : items_from cap [] FRONT (drop FRONT image) ≡ Whole items
  pub bytes : drop FRONT image ≡ flat_map item_bytes items ++ drop place image
  pub shut : first_of (drop place image) ≡ Shut

-- how many there are, where the gate behind them stands, and that each has the length of an item
pub record AreItems (cap : ℕ) (items : List (List ℕ)) (place : ℕ) : Type 0 where
  pub count : length items ≤ cap
  pub at : place ≡ FRONT + length (flat_map item_bytes items)
  pub near : place ≤ FRONT + length items * (MAX_ITEM + AROUND)
  pub fit : AllByRecursion IsItem items

-- what stands behind the front of a content
abbrev pub ItemsGive : ℕ → ℕ → Option (List ℕ) → ℕ → ItemsRead → Type 0
ItemsGive before after content cap (scans.Whole items place) = AreItems cap items.items place × IfSome content (λ image. AllRead image cap items.items place)
ItemsGive before after content cap (scans.Damaged item place) = IfSome content (λ image. items_from cap [] FRONT (drop FRONT image) ≡ Fault item place)
ItemsGive before after content cap scans.Failed = Rose before after
ItemsGive before after content cap scans.NoMemory = ⊤

-- no cap and no charter of this version make these bytes
abbrev pub NoTerms : ℕ → List ℕ → Type 0
NoTerms version bytes = (cap : ℕ) (charter : Charter) → AreTerms cap charter → charter.version ≡ version → bytes ≡ terms cap charter → ⊥

-- they are spelled so, by a charter of this version
pub record TermsAre (version : ℕ) (bytes : List ℕ) (t : Terms) : Type 0 where
  pub are : AreTerms t.cap t.charter
  pub version_is : t.charter.version ≡ version
  pub spelled : bytes ≡ terms t.cap t.charter

-- from the first bytes of an image, all of them or ninety-six
abbrev pub FrontFrom : List ℕ → FrontRead → Type 0
FrontFrom bytes (fronts.Is t) = AreTerms t.cap t.charter × (bytes ≡ front_bytes t.cap t.charter)
FrontFrom bytes (fronts.Unborn found) = (IsMagic found → ⊥) × ((image : List ℕ) → bytes ≡ take FRONT image → IsUnborn image found)
FrontFrom bytes fronts.Missing = (image : List ℕ) → bytes ≡ take FRONT image → IsMagic (found_in image) × NoFront image
FrontFrom bytes fronts.Failed = ⊥

-- the front of a content
abbrev pub FrontGives : ℕ → ℕ → Option (List ℕ) → FrontRead → Type 0
FrontGives before after content (fronts.Is t) = AreTerms t.cap t.charter × IfSome content (λ image. take FRONT image ≡ front_bytes t.cap t.charter)
FrontGives before after content (fronts.Unborn found) = (IsMagic found → ⊥) × IfSome content (λ image. IsUnborn image found)
FrontGives before after content fronts.Missing = IfSome content (λ image. IsMagic (found_in image) × NoFront image)
FrontGives before after content fronts.Failed = Rose before after

-- a journal's whole content: its front, and all that stands behind it
pub record IsWholeJournal (image : List ℕ) (cap : ℕ) (charter : Charter) (items : List (List ℕ)) (place : ℕ) : Type 0 where
  pub front : take FRONT image ≡ front_bytes cap charter
  pub read : AllRead image cap items place

-- a content, and what a stop leaves of it
abbrev pub ContentsGive : ℕ → ℕ → Option (List ℕ) → (List ℕ → Type 0) → ContentsRead → Type 0
ContentsGive before after content images (contents.Whole t items place) =
    AreTerms t.cap t.charter × AreItems t.cap items.items place × Only content images × IfSome content (λ image. IsWholeJournal image t.cap t.charter items.items place)
ContentsGive before after content images (contents.Unborn found) = (IsMagic found → ⊥) × IfSome content (λ image. IsUnborn image found)
ContentsGive before after content images (contents.Damaged item place) = IfSome content (λ image. IsDamaged image item place)
ContentsGive before after content images contents.Failed = Rose before after
ContentsGive before after content images contents.NoMemory = ⊤
