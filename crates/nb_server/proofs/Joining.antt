-- The passes joined into the first one.
use Rattle.std.proofs.Common.{◌≡◌, List, [], ◌∷◌, ◌++◌, Option, None, Some, refl, sym, ap, subst, ◌∙◌, append_assoc, append-nil}
use Rattle.std.specs.List.{AllByRecursion}
use Rattle.nb_turns.specs.declared.line.Line.{Line}
use Rattle.nb_turns.specs.Lines.{maker_of}
use Rattle.nb_turn.specs.declared.chronicle.View.{View}
use Rattle.nb_turn.specs.Lines.{LonePart}
use Rattle.nb_turn.specs.Passes.{TableId}
use Rattle.nb_turn.specs.Views.{joined}
use Rattle.nb_vault.specs.declared.origin.Origin.{Origin}
use Rattle.nb_server.specs.Steps.{AreAt, AreHeld, Done, Joining, JoinsAll, PassSeen, StandAlone}

all_apart : {A : Type 0} (P : A → Type 0) (xs ys : List A) → AllByRecursion P (xs ++ ys) → AllByRecursion P xs × AllByRecursion P ys
all_apart P [] ys all = (tt, all)
all_apart P (x ∷ xs) ys all = let rest = all_apart P xs ys all.1 in ((all.0, rest.0), rest.1)

module _ {S : Type 0} (know : S → PassSeen) where
  pub joins_none : (first : View Origin Line) → JoinsAll know first [] first
  joins_none first = (refl, λ lines all. (all, tt))

  -- one was joined
  pub joins_one : (first last : View Origin Line) (own : S) → last ≡ joined first (know own).view → JoinsAll know first (Some own ∷ []) last
  joins_one first last own is = (
    ap (λ (v : View Origin Line). v.origin) is,
    λ lines all.
        let both = all_apart (LonePart maker_of lines) first.parts (know own).view.parts (subst (AllByRecursion (LonePart maker_of lines)) (ap (λ (v : View Origin Line). v.parts) is) all) in
        (both.0, (both.1, tt)),
  )

  -- there was none to join
  pub joins_no : (first last : View Origin Line) → last ≡ first → JoinsAll know first (None ∷ []) last
  joins_no first last is = (
    ap (λ (v : View Origin Line). v.origin) is,
    λ lines all. (subst (AllByRecursion (LonePart maker_of lines)) (ap (λ (v : View Origin Line). v.parts) is) all, tt),
  )

  alone_more : (lines : List Line) (p : Option S) (ps : List (Option S)) → StandAlone know lines (p ∷ []) → StandAlone know lines ps → StandAlone know lines (p ∷ ps)
  alone_more lines None ps one more = more
  alone_more lines (Some own) ps one more = (one.0, more)

  joins_more : (first mid last : View Origin Line) (p : Option S) (gone : List (Option S)) → JoinsAll know first gone mid → JoinsAll know mid (p ∷ []) last → JoinsAll know first (p ∷ gone) last
  joins_more first mid last p gone before then = (
    then.0 ∙ before.0,
    λ lines all. let one = then.1 lines all in let more = before.1 lines one.0 in (more.0, alone_more lines p gone one.1 more.1),
  )

  module _ (id : TableId) where
    at_both : (ps qs : List (Option S)) → AreAt know id (ps ++ qs) → AreAt know id ps × AreAt know id qs
    at_both [] qs at = (tt, at)
    at_both (None ∷ ps) qs at = at_both ps qs at
    at_both (Some p ∷ ps) qs at = let rest = at_both ps qs at.1 in ((at.0, rest.0), rest.1)

    pub joining_none : (first : View Origin Line) (all : List (Option S)) → AreAt know id all → Joining know id first all all first
    joining_none first all at = record { gone = []; all_are = sym (append-nil all); joins = joins_none first; at = at }

    -- the next one is of this desk
    pub next_at : (first mid : View Origin Line) (all left rest : List (Option S)) (p : Option S) → Joining know id first all left mid → left ≡ rest ++ p ∷ [] → AreAt know id (p ∷ [])
    next_at first mid all left rest p j is = (at_both rest (p ∷ []) (subst (AreAt know id) is j.at)).1

    pub joining_more : (first mid last : View Origin Line) (all left rest : List (Option S)) (p : Option S) → Joining know id first all left mid → left ≡ rest ++ p ∷ [] → JoinsAll know mid (p ∷ []) last → Joining know id first all rest last
    joining_more first mid last all left rest p j is joins = record {
      gone = p ∷ j.gone;
      all_are = j.all_are ∙ ap (λ (ps : List (Option S)). ps ++ j.gone) is ∙ append_assoc rest (p ∷ []) j.gone;
      joins = joins_more first mid last p j.gone j.joins joins;
      at = (at_both rest (p ∷ []) (subst (AreAt know id) is j.at)).0;
    }

    -- all of them
    pub joined_all : (first last : View Origin Line) (all left : List (Option S)) → Joining know id first all left last → left ≡ [] → JoinsAll know first all last
    joined_all first last all left j none = subst (λ (ps : List (Option S)). JoinsAll know first ps last) (sym (j.all_are ∙ ap (λ (ps : List (Option S)). ps ++ j.gone) none)) j.joins

    -- those that workers hold are of this desk
    pub held_at : (ds : List Done) (ps : List (Option S)) → AreHeld know id ds ps → AreAt know id ps
    held_at [] [] held = tt
    held_at [] (p ∷ ps) held = absurd held
    held_at (d ∷ ds) [] held = absurd held
    held_at (d ∷ ds) (None ∷ ps) held = held_at ds ps held.1
    held_at (d ∷ ds) (Some p ∷ ps) held = (held.0.0, held_at ds ps held.1)
