-- The numbers of a drill, written out. Each has a name in the code, by which the other definitions speak of it.
use Rattle.std.specs.Prelude.{◌≡◌, replicate}
use Rattle.nb_play.specs.declared.draws.TheConstants.{MULTIPLIER, INCREMENT}
use Rattle.nb_play.specs.declared.frames.TheConstants.{MAX_ORDERS, PARTIES, MOMENT, CONSUMERS, MERCHANTS, FIRST_MERCHANT, FUNDED, MOST_PRICE, HOUSE_NAME, OPERATOR_NAME, NOTHING}

-- the generator, the parties, their money, the prices, the moment, the names of two keys, what stands for a digest, and the most orders
abbrev pub DrillNumbersAre : Type 0
DrillNumbersAre =
    (MULTIPLIER ≡ 6364136223846793005) × (INCREMENT ≡ 1442695040888963407)
    × (CONSUMERS ≡ 8) × (MERCHANTS ≡ 8) × (FIRST_MERCHANT ≡ 9) × (PARTIES ≡ 16)
    × (FUNDED ≡ 1000000) × (MOST_PRICE ≡ 1000) × (MOMENT ≡ 1000000)
    × (HOUSE_NAME ≡ 0) × (OPERATOR_NAME ≡ 4294967295) × (NOTHING ≡ replicate 32 0) × (MAX_ORDERS ≡ 100000)
