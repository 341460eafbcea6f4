-- A step that is carried out is an act.
use Rattle.std.proofs.Common.{◌≡◌, inl, inr, ℕ, ◌+◌, length, take, drop, List, [], ◌∷◌, ◌++◌, map, Option, Some, None, Result, Ok, Err, refl, sym, ap, subst, ◌∙◌, append-nil, arith}
use Rattle.std.specs.List.{AllByRecursion}
use Rattle.nb_port.specs.Tells.{DiskTells}
use Rattle.nb_journal.specs.Growing.{Grows}
use Rattle.nb_journal.proofs.Growing.{stays_grows, grows_twice}
use Rattle.nb_units.specs.declared.ids.PartyId.{PartyId}
use Rattle.nb_units.specs.Frames.{Frame}
use Rattle.nb_frame.specs.State.{Collected}
use Rattle.nb_frame.specs.Collected.{frame_at}
use Rattle.nb_frame.specs.declared.stream.FrameAt.{FrameAt}
use Rattle.nb_journal.specs.declared.journal.Journal.{Journal}
use Rattle.nb_msgs.specs.declared.node.Reason.{Reason}
use Rattle.nb_msgs.specs.declared.node.Step.{Step}
use Rattle.nb_stall.specs.declared.item.Item.{Item}
use Rattle.nb_stall.specs.Spelling.{IsItem, item_bytes}
use Rattle.nb_stall.proofs.Lengths.{item_is_short}
use Rattle.nb_merchant.specs.declared.answer.Answer.{Answer}
use Rattle.nb_merchant.specs.Shop.{Shop}
use Rattle.nb_merchant.specs.Table.{step_of, after, kept_by, listed}
use Rattle.nb_trade.specs.Lines.{Line, LineGoes}
use Rattle.nb_trade.specs.Keeping.{NotKept}
use Rattle.nb_trade.specs.declared.lost.Lost.{Lost}
use Rattle.nb_trade.specs.declared.lost.Lost.TheVariants as lost
use Rattle.nb_trade.proofs.Going.{line_none, goes_both, says_goes}
use Rattle.nb_sell.specs.declared.peer.Peer.{Peer}
use Rattle.nb_sell.specs.declared.peer.Peer.TheVariants.{House, Consumer}
use Rattle.nb_sell.specs.declared.peer.Next.{Next}
use Rattle.nb_sell.specs.Run.{Act, Way, way, act_row, last_in, awaited, behind, kept, bytes_in, bytes_to, frame_in, frames_on, moments_of, peer_in, AreItems}
use Rattle.nb_sell.specs.Sold.{Lines, Point, Gave, Went, KnowsOf, Loses}
use Rattle.nb_sell.specs.Steps.{Answers, IsShort, Acts, Listens, items_in, bytes_of, next_step, next_awaits, next_behind, done_awaits, at}
use Rattle.nb_sell.proofs.Clocks.{gave_none, gave_both}
use Rattle.nb_sell.proofs.Rows.{awaits_behind}
use Rattle.nb_sell.proofs.Runs.{behind_both, kept_both, bytes_both, frames_both, moments_both, items_both}

-- ---- frames

abbrev pub frame_with : ℕ → List ℕ → Frame
frame_with kind body = record { kind = kind; body = body }

-- the frame whose body was given
pub frame_is : (held : Collected) (f : FrameAt) (body : List ℕ) → body ≡ take f.len (drop f.start held.held) → frame_with f.kind body ≡ frame_at held.held f
frame_is held f body is = ap (frame_with f.kind) is

-- ---- no item of a step is too long

row_short : (row : Result Answer Reason) → AllByRecursion IsItem (kept_by row) → IsShort (step_of row)
row_short (Err why) is = tt
row_short (Ok answer) is = by answer.keep is
  where
    by : (keep : Option Item) → AllByRecursion IsItem (listed keep) → IsShort (step_of (Ok (record answer { keep = keep })))
    by None is = tt
    by (Some x) is = (omega (arith, item_is_short x is.0), tt)

pub step_short : (old new : Shop) (row : Result Answer Reason) (step : Step) → Answers old new row (Ok step) → IsShort step
step_short old new row step answers = subst IsShort (sym answers.told) (row_short row answers.items)

-- ---- what a step does is what its row does

row_items : (row : Result Answer Reason) → items_in (step_of row) ≡ map item_bytes (kept_by row)
row_items (Err why) = refl
row_items (Ok answer) = by answer.keep
  where
    by : (keep : Option Item) → items_in (step_of (Ok (record answer { keep = keep }))) ≡ map item_bytes (listed keep)
    by None = refl
    by (Some x) = refl

row_bytes : (peer : Peer) (last : Option PartyId) (row : Result Answer Reason) → bytes_of peer last (step_of row) ≡ bytes_in peer last row
row_bytes peer last (Ok answer) = refl
row_bytes peer last (Err why) = refl

row_next : (last : Option PartyId) (row : Result Answer Reason) (lines : Lines) → next_step last (step_of row) lines ≡ next_behind last row lines
row_next last (Ok answer) lines = refl
row_next last (Err why) lines = refl

-- of one act
one_kept : (w : Way) (a : Act) → map item_bytes (kept w (a ∷ [])) ≡ map item_bytes (kept_by (act_row w.shop a))
one_kept w a = ap (map item_bytes) (append-nil (kept_by (act_row w.shop a)))

-- ---- one part behind another

module _ {D : Type 0} (tells : DiskTells D) where
  pub went_none : (p : Point D) → Went tells p p []
  went_none p = record {
    journal = stays_grows tells p.journal p.journal refl;
    way = refl;
    items = tt;
    house = line_none p.lines.house;
    consumer = line_none p.lines.consumer;
    clock = gave_none p.clock;
  }

  pub went_both : (p q r : Point D) (acts more : List Act) → Went tells p q acts → Went tells q r more → Went tells p r (acts ++ more)
  went_both p q r acts more first then = record {
    journal = subst (Grows tells p.journal r.journal) (sym (kept_both p.way acts more))
        (grows_twice tells p.journal q.journal r.journal (map item_bytes (kept p.way acts)) (map item_bytes (kept (behind p.way acts) more)) first.journal
        (subst (λ (w : Way). Grows tells q.journal r.journal (map item_bytes (kept w more))) first.way then.journal));
    way = then.way ∙ ap (λ (w : Way). behind w more) first.way ∙ sym (behind_both p.way acts more);
    items = items_both p.way acts more first.items (subst (λ (w : Way). AreItems w more) first.way then.items);
    house = line House p.lines.house q.lines.house r.lines.house first.house then.house;
    consumer = line Consumer p.lines.consumer q.lines.consumer r.lines.consumer first.consumer then.consumer;
    clock = subst (Gave p.clock r.clock) (sym (moments_both acts more)) (gave_both p.clock q.clock r.clock (moments_of acts) (moments_of more) first.clock then.clock);
  }
    where
      line : (peer : Peer) (old mid new : Line) → LineGoes old mid (frames_on peer acts) (bytes_to peer p.way acts) → LineGoes mid new (frames_on peer more) (bytes_to peer q.way more)
          → LineGoes old new (frames_on peer (acts ++ more)) (bytes_to peer p.way (acts ++ more))
      line peer old mid new one two = goes_both old mid new (frames_on peer acts) (frames_on peer more) (frames_on peer (acts ++ more))
          (bytes_to peer p.way acts) (bytes_to peer q.way more) (bytes_to peer p.way (acts ++ more)) (frames_both peer acts more)
          (bytes_both peer p.way acts more ∙ ap (λ (w : Way). bytes_to peer p.way acts ++ bytes_to peer w more) (sym first.way)) one two

  -- ---- one act

  knows : (w : Way) (shop : Shop) (acts : List Act) (why : Lost) → shop ≡ (behind w acts).shop → AreItems w acts → KnowsOf w shop acts why
  knows w shop acts lost.NoMemory is items = inr (is, items)
  knows w shop acts (lost.Full cap) is items = (is, items)
  knows w shop acts (lost.DiskFault before after) is items = (is, items)

  -- a step of the merchant was carried out, behind what was read for it
  pub carried : (p q : Point D) (mid : Lines) (a : Act) (step : Step) (n : Next) → Answers p.way.shop q.way.shop (act_row p.way.shop a) (Ok step)
      → q.way.last ≡ last_in p.way a → q.way.awaits ≡ next_awaits n
      → LineGoes p.lines.house mid.house (frames_on House (a ∷ [])) [] → LineGoes p.lines.consumer mid.consumer (frames_on Consumer (a ∷ [])) []
      → Gave p.clock q.clock (moments_of (a ∷ []))
      → Acts tells p.journal q.journal mid q.lines (last_in p.way a) step (Ok n)
      → Went tells p q (a ∷ []) × (n ≡ next_behind (last_in p.way a) (act_row p.way.shop a) q.lines)
  carried p q mid a step n answers last awaits house consumer clock acts =
      let row = act_row p.way.shop a in
      let next : n ≡ next_behind (last_in p.way a) row q.lines = acts.3 ∙ ap (λ (st : Step). next_step (last_in p.way a) st q.lines) answers.told ∙ row_next (last_in p.way a) row q.lines in
      let to : q.way.awaits ≡ awaited row = awaits ∙ ap next_awaits next ∙ awaits_behind (last_in p.way a) row q.lines in (
        record {
          journal = subst (Grows tells p.journal q.journal) (ap items_in answers.told ∙ row_items row ∙ sym (one_kept p.way a)) acts.0;
          way = λ i. way (answers.after i) (last i) (to i);
          items = (answers.items, tt);
          house = line House p.lines.house mid.house q.lines.house house (says_goes mid.house q.lines.house (bytes_of House (last_in p.way a) step) acts.1);
          consumer = line Consumer p.lines.consumer mid.consumer q.lines.consumer consumer (says_goes mid.consumer q.lines.consumer (bytes_of Consumer (last_in p.way a) step) acts.2);
          clock = clock;
        },
        next,
      )
    where
      line : (peer : Peer) (old between new : Line) → LineGoes old between (frames_on peer (a ∷ [])) [] → LineGoes between new [] (bytes_of peer (last_in p.way a) step)
          → LineGoes old new (frames_on peer (a ∷ [])) (bytes_to peer p.way (a ∷ []))
      line peer old between new one two = goes_both old between new (frames_on peer (a ∷ [])) [] (frames_on peer (a ∷ [])) [] (bytes_of peer (last_in p.way a) step) (bytes_to peer p.way (a ∷ []))
          (sym (append-nil (frames_on peer (a ∷ []))))
          (append-nil (bytes_in peer (last_in p.way a) (act_row p.way.shop a)) ∙ sym (ap (bytes_of peer (last_in p.way a)) answers.told ∙ row_bytes peer (last_in p.way a) (act_row p.way.shop a))) one two

  -- or what it keeps was not kept
  pub lost_act : (p q : Point D) (mid : Lines) (a : Act) (step : Step) (why : Lost) → Answers p.way.shop q.way.shop (act_row p.way.shop a) (Ok step)
      → LineGoes p.lines.house mid.house (frames_on House (a ∷ [])) [] → LineGoes p.lines.consumer mid.consumer (frames_on Consumer (a ∷ [])) []
      → Gave p.clock q.clock (moments_of (a ∷ []))
      → Acts tells p.journal q.journal mid q.lines (last_in p.way a) step (Err why) → Loses tells p q (a ∷ []) why
  lost_act p q mid a step why answers house consumer clock acts = record {
    journal = subst (λ (items : List (List ℕ)). NotKept tells p.journal q.journal items why) (ap items_in answers.told ∙ row_items (act_row p.way.shop a) ∙ sym (one_kept p.way a)) acts.0;
    shop = knows p.way q.way.shop (a ∷ []) why answers.after (answers.items, tt);
    house = subst (λ (lines : Lines). LineGoes p.lines.house lines.house (frames_on House (a ∷ [])) []) (sym acts.1) house;
    consumer = subst (λ (lines : Lines). LineGoes p.lines.consumer lines.consumer (frames_on Consumer (a ∷ [])) []) (sym acts.1) consumer;
    clock = clock;
  }

  -- whichever it was
  pub listens_done : (p : Point D) (journal : Journal D) (shop : Shop) (lines mid : Lines) (clock : Option (List ℕ)) (last : Option PartyId) (from : Peer) (a : Act) (step : Step) (result : Result Next Lost) (read read' : ℕ)
      → from ≡ peer_in a → read' ≡ read + length (frame_in Consumer a)
      → Answers p.way.shop shop (act_row p.way.shop a) (Ok step) → last ≡ last_in p.way a
      → LineGoes p.lines.house mid.house (frames_on House (a ∷ [])) [] → LineGoes p.lines.consumer mid.consumer (frames_on Consumer (a ∷ [])) []
      → Gave p.clock clock (moments_of (a ∷ []))
      → Acts tells p.journal journal mid lines (last_in p.way a) step result
      → Listens tells p (at journal shop lines clock last (done_awaits result)) from read read' result
  listens_done p journal shop lines mid clock last from a step (Ok n) read read' is count answers whose house consumer gave acts =
      let k = carried p (at journal shop lines clock last (next_awaits n)) mid a step n answers whose refl house consumer gave acts in
      (Some a, (is, k.0, k.1), count)
  listens_done p journal shop lines mid clock last from a step (Err why) read read' is count answers whose house consumer gave acts =
      (a, is, lost_act p (at journal shop lines clock last None) mid a step why answers house consumer gave acts)

  -- there was no memory for the step
  pub starved : (p q : Point D) (a : Act) → q.journal ≡ p.journal → q.way.shop ≡ p.way.shop
      → LineGoes p.lines.house q.lines.house (frames_on House (a ∷ [])) [] → LineGoes p.lines.consumer q.lines.consumer (frames_on Consumer (a ∷ [])) []
      → Gave p.clock q.clock (moments_of (a ∷ [])) → Loses tells p q (a ∷ []) lost.NoMemory
  starved p q a journal shop house consumer clock = record { journal = journal; shop = inl shop; house = house; consumer = consumer; clock = clock }
