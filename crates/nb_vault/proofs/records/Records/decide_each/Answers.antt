use Rattle.std.proofs.Common.{◌≡◌, ◌+◌, ◌++◌, ◌∷◌, [], ℕ, List, length, take, get_or, sym, ap, ◌∙◌, arith}
use Rattle.std.specs.Option.{option_to_list}
use Rattle.std.proofs.lemmas.List.{length-append}
use Rattle.nb_msgs.specs.ReplyBytes.{joined}
use Rattle.nb_entry.specs.declared.entry.Entry.{Entry}
use Rattle.nb_escrow.specs.Head.{head_of}
use Rattle.nb_turns.specs.Turns.{Request, Ruling, decided, places, recorded, replies}
use Rattle.nb_vault.specs.declared.answer.AskAt.{AskAt}
use Rattle.nb_vault.specs.Asking.{request_at, request_of, requests_of}
use Rattle.nb_vault.specs.Rules.{house_of, house_rules}
use Rattle.nb_vault.proofs.Verdicts.{asked, comes_to, few_recorded, goes_on, joined_one, one_request, place_count, place_one, record_one, reply_one, request_count}
use Rattle.nb_vault.proofs.records.Records.decide_each.Goals as goal

pub decide_one-requires-clause-keys : goal.decide_one-requires-clause-keys
decide_one-requires-clause-keys g c = c.requires.keys ∙ ap head_of (sym c.loop-ask.invariant.charter)

pub decide_one-requires-clause-few : goal.decide_one-requires-clause-few
decide_one-requires-clause-few g c =
    let requests = requests_of c.args.bytes.now (take c.loop-ask.ask-index c.args.asks.now) in
    let house = house_of c.args.head.now c.args.self.now.book.cap in
    omega (arith, ap length c.loop-ask.invariant.group, few_recorded house c.args.self.now.book.entries requests, request_count c.args.bytes.now c.args.asks.now c.loop-ask.ask-index, c.loop-ask-test.true, c.requires.few)

pub decide_one-requires-clause-places : goal.decide_one-requires-clause-places
decide_one-requires-clause-places g c =
    let requests = requests_of c.args.bytes.now (take c.loop-ask.ask-index c.args.asks.now) in
    let house = house_of c.args.head.now c.args.self.now.book.cap in
    omega (arith, ap length c.loop-ask.invariant.places, place_count house c.args.self.now.book.entries requests, request_count c.args.bytes.now c.args.asks.now c.loop-ask.ask-index, c.loop-ask-test.true, c.requires.few)

pub loop-ask-preserved : goal.loop-ask-preserved
loop-ask-preserved g c =
    let before = c.args.self.now in
    let head = c.args.head.now in
    let house = house_of head before.book.cap in
    let over = before.book.entries in
    let bytes = c.args.bytes.now in
    let asks = c.args.asks.now in
    let i = c.loop-ask.ask-index in
    let inv = c.loop-ask.invariant in
    let step = c.decide_one.ensures in
    let d : AskAt = record { kind = 0; start = 0; len = 0; moment = 0 } in
    let ask : AskAt = get_or asks i d in
    let body = c.split_at-in-loop-ask.result.0.now in
    let requests = requests_of bytes (take i asks) in
    let now = c.loop-ask.self.book.entries in
    let request = request_at bytes ask in
    let more : requests_of bytes (take (i + 1) asks) ≡ requests ++ request ∷ [] = one_request bytes asks i d c.loop-ask-test.true in
    let rule : house_rules head c.loop-ask.self.book.cap now (request_of ask.kind body ask.moment) ≡ house.rules now request =
    ap (λ (cap : ℕ). house_rules head cap now (request_of ask.kind body ask.moment)) inv.cap
    ∙ ap (λ (r : Request). house_rules head before.book.cap now r) (asked bytes ask body c.split_at.result.1.now c.split_at-in-loop-ask.ensures.front c.split_at.ensures.back) in
    let entry = ap (λ (r : Ruling). option_to_list r.entry) rule in
    let recorded_more : recorded house over (requests_of bytes (take (i + 1) asks)) ≡ recorded house over requests ++ option_to_list (house.rules now request).entry =
    ap (recorded house over) more ∙ record_one house over requests request now inv.entries in
    record {
      gathers = step.gathers;
      over = step.over ∙ inv.over;
      charter = step.terms.charter ∙ inv.charter;
      cap = step.terms.cap ∙ inv.cap;
      journal = step.journal ∙ inv.journal;
      entries = goes_on c.decide_one.new.self.book.entries now over (recorded house over requests) (recorded house over (requests_of bytes (take (i + 1) asks))) (option_to_list (house.rules now request).entry)
          (step.entries ∙ ap (λ (es : List Entry). now ++ es) entry) inv.entries recorded_more;
      group = comes_to c.decide_one.new.self.group.items c.loop-ask.self.group.items (recorded house over requests) (recorded house over (requests_of bytes (take (i + 1) asks))) (option_to_list (house.rules now request).entry)
          (step.group ∙ ap (λ (es : List Entry). c.loop-ask.self.group.items ++ es) entry) inv.group recorded_more;
      places = comes_to c.decide_one.new.self.places.items c.loop-ask.self.places.items (places (decided house over requests)) (places (decided house over (requests_of bytes (take (i + 1) asks)))) (length now ∷ [])
          step.places inv.places (ap (λ (rs : List Request). places (decided house over rs)) more ∙ place_one house over requests request now inv.entries);
      drafts = comes_to (joined c.decide_one.new.drafts.items) (joined c.loop-ask.drafts.items) (replies (decided house over requests)) (replies (decided house over (requests_of bytes (take (i + 1) asks)))) (house.rules now request).reply
          (joined_one c.decide_one.new.drafts.items c.loop-ask.drafts.items (house.rules now request).reply (step.drafts ∙ ap (λ (r : Ruling). c.loop-ask.drafts.items ++ r.reply ∷ []) rule)) inv.drafts
          (ap (λ (rs : List Request). replies (decided house over rs)) more ∙ reply_one house over requests request now inv.entries);
      count = omega (arith, ap length step.drafts, length-append c.loop-ask.drafts.items ((house_rules head c.loop-ask.self.book.cap now (request_of ask.kind body ask.moment)).reply ∷ []), inv.count);
      room = step.room ∙ inv.room;
    }
