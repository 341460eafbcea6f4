-- What a report has rows of.
use Rattle.std.proofs.Common.{◌≡◌, ◌⊎◌, ◌↔◌, ℕ, ◌+◌, Bool, true, false, cond, List, [], ◌∷◌, ◌++◌, map, take, length, Option, Some, None, Ordering, inl, inr, refl, sym, ap, subst, ◌∙◌, arith}
use Rattle.std.specs.Prelude.{IsTrue, IsSome, Contains, ◌==◌}
use Rattle.std.specs.BTreeMap.{is_at}
use Rattle.std.specs.BTreeSet as sorted
use Rattle.std.specs.BTreeSet.{BTreeSet, Updates}
use Rattle.std.specs.Cmp.{IsTotalOrder, nat_cmp_total}
use Rattle.std.specs.List.{slice_get}
use Rattle.std.specs.List.Sorted.{IsStrictlySortedBy}
use Rattle.std.specs.Option.{option_map, option_or}
use Rattle.std.specs.Ordering.{nat_cmp}
use Rattle.std.proofs.lemmas.Bool.{false≢true, eq-eqb, eqb-true}
use Rattle.std.proofs.lemmas.List.{take_more}
use Rattle.std.proofs.lemmas.List.Elements.{Contains-append_left, Contains-push, Contains-push_cases}
use Rattle.std.proofs.lemmas.Map.Lookups.{CmpEqualImpliesEq, exact_unsigned}
use Rattle.std.proofs.lemmas.Map.Views.{btree_set_contains_iff, tells_apart}
use Rattle.std.proofs.lemmas.Option.{slice_get_within, get_or_from_slice_get}
use Rattle.nb_units.specs.declared.ids.AcctId.{AcctId}
use Rattle.nb_units.specs.declared.ids.PartyId.{PartyId}
use Rattle.nb_entry.specs.declared.entry.Entry.{Entry}
use Rattle.nb_entry.specs.declared.entry.Entry.TheVariants as entry
use Rattle.nb_book.specs.Money.{opened}
use Rattle.nb_book.specs.Searches.{holder_in, holder_at}
use Rattle.nb_book.proofs.Indexing.{first_push}
use Rattle.nb_consumer.specs.State.{Buyer, number_of}
use Rattle.nb_buyers.specs.Buyers.{knows_of}
use Rattle.nb_player.specs.Report.{account, AddsAccount, AddsPurchases, AreAccounts, ArePurchases, Knows, purchase_order}
use Rattle.nb_player.proofs.OneReport.{purchase_order_total, purchase_order_exact}

-- one element more of a list
pub next_taken : {A : Type 0} (xs : List A) (i : ℕ) (x : A) → slice_get xs i ≡ Some x → take (i + 1) xs ≡ take i xs ++ x ∷ []
next_taken xs i x is = take_more xs i x (slice_get_within xs i x is) ∙ ap (λ y. take i xs ++ y ∷ []) (get_or_from_slice_get xs i x x is)

-- nothing is in an empty list
contains_none : {K : Type 0} (k : K) → Contains [] k → ⊥
contains_none k h = absurd (omega (arith, h.1))

-- what was put in is there, with what was there
pub inserted : {K : Type 0} {R : K → K → Ordering} (o : IsTotalOrder R) (exact : CmpEqualImpliesEq R) (s n : BTreeSet K) (k : K) → Updates R s n k true
    → (q : K) → Contains n.keys q ↔ (Contains s.keys q ⊎ (k ≡ q))
inserted {K} {R} o exact s n k u q =
    let before = btree_set_contains_iff o exact s q in
    let behind = btree_set_contains_iff o exact n q in
    let own = btree_set_contains_iff o exact n k in (
      λ h. there (is_at (R k) q) (λ e. tells_apart exact k q e) (sorted.contains R s q) before.0 (sym (u.0 q) ∙ behind.1 h),
      λ h. back h,
    )
  where
    there : (b : Bool) → (b ≡ true → k ≡ q) → (c : Bool) → (IsTrue c → Contains s.keys q) → cond b true c ≡ true → Contains s.keys q ⊎ (k ≡ q)
    there true same c f e = inr (same refl)
    there false same c f e = inl (f e)

    kept : (b c : Bool) → c ≡ true → cond b true c ≡ true
    kept true c e = refl
    kept false c e = e

    back : Contains s.keys q ⊎ (k ≡ q) → Contains n.keys q
    back (inl h) = (btree_set_contains_iff o exact n q).0 (u.0 q ∙ kept (is_at (R k) q) (sorted.contains R s q) ((btree_set_contains_iff o exact s q).1 h))
    back (inr e) = subst (Contains n.keys) e ((btree_set_contains_iff o exact n k).0 u.1)

-- ---- accounts

same_account : (a b : AcctId) → a.0 ≡ b.0 → a ≡ b
same_account a b e = ap (λ (n : ℕ). let x : AcctId = record { 0 = n } in x) e

-- an entry that opens an account was told of it
pub opens : (acct : AcctId) (old new : BTreeSet ℕ) (id : PartyId) (role nonce : ℕ) (key : List ℕ) → sorted.IsOrdered nat_cmp new → Updates nat_cmp old new acct.0 true
    → AddsAccount old.keys (entry.Enrol id role acct nonce key) new.keys
opens acct old new id role nonce key ordered u = record {
  ascend = λ before. ordered;
  each = λ a.
      let each = inserted nat_cmp_total exact_unsigned old new acct.0 u a in
      (λ h. there a (each.0 h), λ h. each.1 (back a h));
}
  where
    named : (x y : AcctId) → ◌≡◌ {A = Option AcctId} (Some x) (Some y) → x.0 ≡ y.0
    named x y e = cc

    there : (a : ℕ) → Contains old.keys a ⊎ (acct.0 ≡ a) → Contains old.keys a ⊎ (◌≡◌ {A = Option AcctId} (Some acct) (Some (account a)))
    there a (inl h) = inl h
    there a (inr e) = inr (ap (λ (x : AcctId). Some x) (same_account acct (account a) e))

    back : (a : ℕ) → Contains old.keys a ⊎ (◌≡◌ {A = Option AcctId} (Some acct) (Some (account a))) → Contains old.keys a ⊎ (acct.0 ≡ a)
    back a (inl h) = inl h
    back a (inr e) = inr (named acct (account a) e)

-- one that opens none leaves them
pub opens_none : (rows : List ℕ) (e : Entry) → opened e ≡ None → AddsAccount rows e rows
opens_none rows e none = record {
  ascend = λ before. before;
  each = λ a. (λ h. inl h, λ h. back a h);
}
  where
    clash : (a : ℕ) → ◌≡◌ {A = Option AcctId} None (Some (account a)) → ⊥
    clash a e = cc

    back : (a : ℕ) → Contains rows a ⊎ (opened e ≡ Some (account a)) → Contains rows a
    back a (inl h) = h
    back a (inr is) = absurd (clash a (sym none ∙ is))

-- no entry opens one
pub no_accounts : AreAccounts [] []
unfolding IsStrictlySortedBy
no_accounts = record { ascend = tt; each = λ a. (λ h. absurd (contains_none a h), λ h. absurd (false≢true h)) }

-- who holds an account by one entry
holds : (a at : ℕ) (e : Entry) → IsSome (holder_at (account a) at e) ↔ (opened e ≡ Some (account a))
holds a at (entry.Enrol id role acct nonce key) = (λ h. there (acct.0 == a) (λ e. eqb-true acct.0 a e) h, λ h. back (named acct (account a) h))
  where
    named : (x y : AcctId) → ◌≡◌ {A = Option AcctId} (Some x) (Some y) → x.0 ≡ y.0
    named x y e = cc

    there : (b : Bool) → (b ≡ true → acct.0 ≡ a) → IsSome (cond b (Some id) None) → ◌≡◌ {A = Option AcctId} (Some acct) (Some (account a))
    there true same h = ap (λ (x : AcctId). Some x) (same_account acct (account a) (same refl))
    there false same h = absurd (false≢true h)

    back : acct.0 ≡ a → IsSome (cond (acct.0 == a) (Some id) None)
    back e = by (acct.0 == a) (eq-eqb acct.0 a e)
      where
        by : (b : Bool) → b ≡ true → IsSome (cond b (Some id) None)
        by true is = refl
        by false is = absurd (false≢true is)
holds a at (entry.Fund acct amount reference) = (λ h. absurd (false≢true h), λ h. absurd (none_some h))
  where
    none_some : ◌≡◌ {A = Option AcctId} None (Some (account a)) → ⊥
    none_some e = cc
holds a at (entry.Paid digest epoid consumer merchant product price cacct macct moment key) = (λ h. absurd (false≢true h), λ h. absurd (none_some h))
  where
    none_some : ◌≡◌ {A = Option AcctId} None (Some (account a)) → ⊥
    none_some e = cc
holds a at (entry.Charged digest epoid consumer merchant product price fee cacct macct moment key) = (λ h. absurd (false≢true h), λ h. absurd (none_some h))
  where
    none_some : ◌≡◌ {A = Option AcctId} None (Some (account a)) → ⊥
    none_some e = cc
holds a at (entry.Refused digest epoid consumer merchant product price code x b moment) = (λ h. absurd (false≢true h), λ h. absurd (none_some h))
  where
    none_some : ◌≡◌ {A = Option AcctId} None (Some (account a)) → ⊥
    none_some e = cc

some_of : {A : Type 0} (x y : Option A) → IsSome (option_or x y) ↔ (IsSome x ⊎ IsSome y)
some_of {A} None y = (λ h. inr h, λ h. by h)
  where
    none : Option A
    none = None

    by : IsSome none ⊎ IsSome y → IsSome y
    by (inl h) = absurd (false≢true h)
    by (inr h) = h
some_of (Some x) y = (λ h. inl refl, λ h. refl)

-- with an entry more
pub account_more : (H : List Entry) (e : Entry) (old new : List ℕ) → AreAccounts H old → AddsAccount old e new → AreAccounts (H ++ e ∷ []) new
account_more H e old new are adds = record {
  ascend = adds.ascend are.ascend;
  each = λ a. (
    λ h. subst IsSome (sym (first_push (holder_at (account a)) 0 H e)) ((some_of (holder_in H (account a)) (holder_at (account a) (0 + length H) e)).1 (there a ((adds.each a).0 h))),
    λ h. (adds.each a).1 (back a ((some_of (holder_in H (account a)) (holder_at (account a) (0 + length H) e)).0 (subst IsSome (first_push (holder_at (account a)) 0 H e) h))),
  );
}
  where
    there : (a : ℕ) → Contains old a ⊎ (opened e ≡ Some (account a)) → IsSome (holder_in H (account a)) ⊎ IsSome (holder_at (account a) (0 + length H) e)
    there a (inl h) = inl ((are.each a).0 h)
    there a (inr is) = inr ((holds a (0 + length H) e).1 is)

    back : (a : ℕ) → IsSome (holder_in H (account a)) ⊎ IsSome (holder_at (account a) (0 + length H) e) → Contains old a ⊎ (opened e ≡ Some (account a))
    back a (inl h) = inl ((are.each a).1 h)
    back a (inr is) = inr ((holds a (0 + length H) e).0 is)

-- ---- purchases

-- no number adds one
pub adds_none : (rows : List (ℕ × ℕ)) (consumer : ℕ) → AddsPurchases rows consumer [] rows
adds_none rows consumer = record {
  ascend = λ before. before;
  each = λ p. (λ h. inl h, λ h. back p h);
}
  where
    back : (p : ℕ × ℕ) → Contains rows p ⊎ ((p.0 ≡ consumer) × Contains [] p.1) → Contains rows p
    back p (inl h) = h
    back p (inr h) = absurd (contains_none p.1 h.1)

-- one more number adds one more
pub adds_more : (rows : List (ℕ × ℕ)) (consumer : ℕ) (numbers : List ℕ) (old new : BTreeSet (ℕ × ℕ)) (n : ℕ) → AddsPurchases rows consumer numbers old.keys
    → sorted.IsOrdered purchase_order new → Updates purchase_order old new (consumer, n) true → AddsPurchases rows consumer (numbers ++ n ∷ []) new.keys
adds_more rows consumer numbers old new n adds ordered u = record {
  ascend = λ before. ordered;
  each = λ p.
      let each = inserted purchase_order_total purchase_order_exact old new (consumer, n) u p in
      (λ h. there p (each.0 h), λ h. each.1 (back p h));
}
  where
    carried : (p : ℕ × ℕ) → Contains rows p ⊎ ((p.0 ≡ consumer) × Contains numbers p.1) → Contains rows p ⊎ ((p.0 ≡ consumer) × Contains (numbers ++ n ∷ []) p.1)
    carried p (inl h) = inl h
    carried p (inr h) = inr (h.0, Contains-append_left numbers (n ∷ []) p.1 h.1)

    there : (p : ℕ × ℕ) → Contains old.keys p ⊎ ((consumer, n) ≡ p) → Contains rows p ⊎ ((p.0 ≡ consumer) × Contains (numbers ++ n ∷ []) p.1)
    there p (inl h) = carried p ((adds.each p).0 h)
    there p (inr e) = inr (sym (ap (λ (x : ℕ × ℕ). x.0) e), subst (λ (x : ℕ × ℕ). Contains (numbers ++ n ∷ []) x.1) e (Contains-push numbers n))

    last : (p : ℕ × ℕ) → p.0 ≡ consumer → Contains numbers p.1 ⊎ (n ≡ p.1) → Contains old.keys p ⊎ ((consumer, n) ≡ p)
    last p is (inl h) = inl ((adds.each p).1 (inr (is, h)))
    last p is (inr e) = inr (pair p is e)
      where
        pair : (p : ℕ × ℕ) → p.0 ≡ consumer → n ≡ p.1 → (consumer, n) ≡ p
        pair p is e = rw (sym is, e) refl

    back : (p : ℕ × ℕ) → Contains rows p ⊎ ((p.0 ≡ consumer) × Contains (numbers ++ n ∷ []) p.1) → Contains old.keys p ⊎ ((consumer, n) ≡ p)
    back p (inl h) = inl ((adds.each p).1 (inl h))
    back p (inr h) = last p h.0 (Contains-push_cases numbers n p.1 h.1)

-- what is told of a consumer is one that is there
pub told_at : (o : Option Buyer) (p : PartyId × List ℕ) → Some p ≡ option_map knows_of o → (b : Buyer) × (o ≡ Some b) × (knows_of b ≡ p)
told_at None p e = absurd (clash e)
  where
    clash : ◌≡◌ {A = Option (PartyId × List ℕ)} (Some p) None → ⊥
    clash e = cc
told_at (Some b) p e = (b, refl, same (knows_of b) p (sym e))
  where
    same : (x y : PartyId × List ℕ) → ◌≡◌ {A = Option (PartyId × List ℕ)} (Some x) (Some y) → x ≡ y
    same x y e = cc

-- nobody knows one
pub no_purchases : ArePurchases [] []
unfolding IsStrictlySortedBy
no_purchases = record { ascend = tt; each = λ p. (λ h. absurd (contains_none p h), λ h. absurd (contains_none h.0 h.1)) }

-- with a consumer more
pub purchase_more : (buyers : List Buyer) (b : Buyer) (consumer : ℕ) (numbers : List ℕ) (old new : List (ℕ × ℕ)) → b.wallet.id.0 ≡ consumer → map number_of b.purchases ≡ numbers
    → ArePurchases buyers old → AddsPurchases old consumer numbers new → ArePurchases (buyers ++ b ∷ []) new
purchase_more buyers b consumer numbers old new who which are adds = record {
  ascend = adds.ascend are.ascend;
  each = λ p. (λ h. there p ((adds.each p).0 h), λ h. (adds.each p).1 (back p h));
}
  where
    there : (p : ℕ × ℕ) → Contains old p ⊎ ((p.0 ≡ consumer) × Contains numbers p.1) → Knows (buyers ++ b ∷ []) p.0 p.1
    there p (inl h) =
        let known = (are.each p).0 h in
        (known.0, Contains-append_left buyers (b ∷ []) known.0 known.1, known.2, known.3)
    there p (inr h) = (b, Contains-push buyers b, who ∙ sym h.0, subst (λ (ns : List ℕ). Contains ns p.1) (sym which) h.1)

    of : (p : ℕ × ℕ) (x : Buyer) → x.wallet.id.0 ≡ p.0 → Contains (map number_of x.purchases) p.1 → Contains buyers x ⊎ (b ≡ x) → Contains old p ⊎ ((p.0 ≡ consumer) × Contains numbers p.1)
    of p x is has (inl h) = inl ((are.each p).1 (x, h, is, has))
    of p x is has (inr e) =
        inr (sym is ∙ sym (ap (λ (y : Buyer). y.wallet.id.0) e) ∙ who, subst (λ (ns : List ℕ). Contains ns p.1) which (subst (λ (y : Buyer). Contains (map number_of y.purchases) p.1) (sym e) has))

    back : (p : ℕ × ℕ) → Knows (buyers ++ b ∷ []) p.0 p.1 → Contains old p ⊎ ((p.0 ≡ consumer) × Contains numbers p.1)
    back p h = of p h.0 h.2 h.3 (Contains-push_cases buyers b h.0 h.1)
