-- What a line says: a function of its words, each by its place.
use Rattle.std.specs.Prelude.{ℕ, ◌+◌, ◌==◌, ◌||◌, nat_lt, true, false, List, [], length, codes, Option, Some, None, if◌then◌else◌}
use Rattle.std.specs.Option.{option_map, option_or}
use Rattle.std.specs.Result.{result_ok}
use Rattle.std.specs.Str.{bytes_eq}
use Rattle.hex.specs.Hex.{decode_of}
use Rattle.nb_units.specs.declared.frames.TheConstants.{LAST_KIND}
use Rattle.nb_script.specs.declared.act.Act.{Act}
use Rattle.nb_script.specs.declared.act.Act.TheVariants as on
use Rattle.nb_script.specs.declared.act.Addressee.{Addressee}
use Rattle.nb_script.specs.declared.act.Addressee.TheVariants as to
use Rattle.nb_script.specs.declared.limits.TheConstants.{MAX_SCRIPT_CAP, MAX_BODY_DIGITS}
use Rattle.nb_script.specs.declared.line.Line.{Line}
use Rattle.nb_script.specs.declared.line.Line.TheVariants as line
use Rattle.nb_script.specs.Words.{◌>>=◌, word_at, says, are, number_at, word4_at, word8_at, party_at, account_at, bytes_at}

-- ---- the first two lines

-- house HEX
unfoldable pub head_in : List (List ℕ) → Option (List ℕ)
head_in words = do
  all ← are 2 words
  if says words 0 (codes "house") then bytes_at 80 words 1 else None

-- cap N
unfoldable pub cap_in : List (List ℕ) → Option ℕ
cap_in words = do
  all ← are 2 words
  if says words 0 (codes "cap") then number_at 1 MAX_SCRIPT_CAP words 1 else None

-- ---- what is set up

-- consumer ID ACCT NONCE KEY
unfoldable pub consumer_in : List (List ℕ) → Option Line
consumer_in words = do
  all ← are 5 words
  id ← party_at words 1
  acct ← account_at words 2
  nonce ← word8_at words 3
  key ← bytes_at 32 words 4
  Some (line.Consumer (record { id = id; acct = acct; nonce = nonce; key = key }))

-- merchant ID ACCT KEY MASTER
unfoldable pub merchant_in : List (List ℕ) → Option Line
merchant_in words = do
  all ← are 5 words
  id ← party_at words 1
  acct ← account_at words 2
  key ← bytes_at 32 words 3
  master ← bytes_at 32 words 4
  Some (line.Merchant (record { id = id; acct = acct; key = key; master = master }))

-- fund ACCT AMOUNT
unfoldable pub fund_in : List (List ℕ) → Option Line
fund_in words = do
  all ← are 3 words
  acct ← account_at words 1
  amount ← word8_at words 2
  Some (line.Fund acct amount)

-- shelf MERCHANT PRODUCT PRICE LENGTH
unfoldable pub shelf_in : List (List ℕ) → Option Line
shelf_in words = do
  all ← are 5 words
  merchant ← party_at words 1
  product ← word4_at words 2
  price ← word8_at words 3
  len ← word4_at words 4
  Some (line.Shelf (record { merchant = merchant; product = product; price = record { 0 = price }; length = len }))

-- ---- what happens

-- a number of 32 bits is all behind the first word
unfoldable pub one_in : List (List ℕ) → Option ℕ
one_in words = do
  all ← are 2 words
  word4_at words 1

-- deliver K, serve K, turn C, write C, open C, answer C
unfoldable pub step_in : List (List ℕ) → Option Act
step_in words =
    if says words 0 (codes "deliver") then option_map on.Deliver (one_in words)
    else if says words 0 (codes "serve") then option_map on.Serve (one_in words)
    else if says words 0 (codes "turn") then option_map on.Turn (one_in words)
    else if says words 0 (codes "write") then option_map on.Write (one_in words)
    else if says words 0 (codes "open") then option_map on.Open (one_in words)
    else if says words 0 (codes "answer") then option_map on.Answer (one_in words)
    else None

-- clock T
unfoldable pub clock_in : List (List ℕ) → Option Act
clock_in words = do
  all ← are 2 words
  moment ← word8_at words 1
  Some (on.Clock moment)

-- buy CONSUMER TID MERCHANT PRODUCT LIMIT
unfoldable pub buy_in : List (List ℕ) → Option Act
buy_in words = do
  all ← are 6 words
  consumer ← party_at words 1
  tid ← word8_at words 2
  merchant ← party_at words 3
  product ← word4_at words 4
  limit ← word8_at words 5
  Some (on.Buy consumer tid merchant product (record { 0 = limit }))

-- quiet consumer ID TID
unfoldable pub quiet_consumer_in : List (List ℕ) → Option Act
quiet_consumer_in words = do
  all ← are 4 words
  consumer ← party_at words 2
  tid ← word8_at words 3
  Some (on.QuietConsumer consumer tid)

-- quiet merchant ID CONSUMER TID
unfoldable pub quiet_merchant_in : List (List ℕ) → Option Act
quiet_merchant_in words = do
  all ← are 5 words
  merchant ← party_at words 2
  consumer ← party_at words 3
  tid ← word8_at words 4
  Some (on.QuietMerchant merchant consumer tid)

-- one of the two
unfoldable pub quiet_in : List (List ℕ) → Option Act
quiet_in words =
    if says words 1 (codes "consumer") then quiet_consumer_in words
    else if says words 1 (codes "merchant") then quiet_merchant_in words
    else None

-- restart consumer ID, restart merchant ID
unfoldable pub restart_in : List (List ℕ) → Option Act
restart_in words = do
  all ← are 3 words
  id ← party_at words 2
  if says words 1 (codes "consumer") then Some (on.RestartConsumer id) else if says words 1 (codes "merchant") then Some (on.RestartMerchant id) else None

-- stop with, stop without
unfoldable pub stop_in : List (List ℕ) → Option Act
stop_in words = do
  all ← are 2 words
  if says words 1 (codes "with") then Some (on.Stop true) else if says words 1 (codes "without") then Some (on.Stop false) else None

-- each by its first word
unfoldable pub told_in : List (List ℕ) → Option Act
told_in words =
    if says words 0 (codes "clock") then clock_in words
    else if says words 0 (codes "buy") then buy_in words
    else if says words 0 (codes "quiet") then quiet_in words
    else if says words 0 (codes "restart") then restart_in words
    else if says words 0 (codes "stop") then stop_in words
    else step_in words

-- ---- what is injected

-- whom a packet is for, by the words behind the first, and how many words these are: server, consumer ID, merchant ID
unfoldable pub addressee_in : List (List ℕ) → Option (Addressee × ℕ)
addressee_in words =
    if says words 1 (codes "server") then Some (to.Server, 1)
    else if says words 1 (codes "consumer") then option_map (λ id. (to.Consumer id, 2)) (party_at words 2)
    else if says words 1 (codes "merchant") then option_map (λ id. (to.Merchant id, 2)) (party_at words 2)
    else None

-- the bytes of a body: none at a minus, else those of an even number of hexadecimal digits of either case, from 2 to MAX_BODY_DIGITS
unfoldable pub body_in : List ℕ → Option (List ℕ)
body_in word =
    if bytes_eq word (codes "-") then Some []
    else if length word == 0 || nat_lt MAX_BODY_DIGITS (length word) then None
    else result_ok (decode_of word)

-- behind the addressee: KIND HEX; the place is that of the last word
unfoldable pub injected_in : List (List ℕ) → Option (Addressee × ℕ × ℕ)
injected_in words = do
  whom ← addressee_in words
  all ← are (whom.1 + 3) words
  kind ← number_at 1 LAST_KIND words (whom.1 + 1)
  Some (whom.0, kind, whom.1 + 2)

-- inject server KIND HEX, inject consumer ID KIND HEX, inject merchant ID KIND HEX
unfoldable pub inject_in : List (List ℕ) → Option Act
inject_in words = do
  what ← injected_in words
  body ← body_in (word_at words what.2)
  Some (on.Inject what.0 what.1 body)

-- ---- a line

-- what a line lets happen
unfoldable pub act_in : List (List ℕ) → Option Act
act_in words = if says words 0 (codes "inject") then inject_in words else told_in words

-- what a line sets up
unfoldable pub set_in : List (List ℕ) → Option Line
set_in words =
    if says words 0 (codes "consumer") then consumer_in words
    else if says words 0 (codes "merchant") then merchant_in words
    else if says words 0 (codes "fund") then fund_in words
    else if says words 0 (codes "shelf") then shelf_in words
    else None

-- one of both
unfoldable pub line_in : List (List ℕ) → Option Line
line_in words = option_or (set_in words) (option_map line.Does (act_in words))
