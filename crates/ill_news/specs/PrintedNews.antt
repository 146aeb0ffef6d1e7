-- The news of a desk since a day: open answers, what came, and what dates have made due.
use Rattle.std.specs.Prelude.{ℕ, List, ◌++◌, Option, Some, option_map}
use Rattle.ill_values.specs.Day.{Date}
use Rattle.ill_values.specs.declared.apdu.Apdu.{Apdu}
use Rattle.ill_record.specs.declared.side.Side.{Side}
use Rattle.ill_beside.specs.Since.{AnnexRead}
use Rattle.ill_news.specs.CameSince.{came_since}
use Rattle.ill_news.specs.Deeds.{deeds_since}
use Rattle.ill_news.specs.News.{news_of}
use Rattle.ill_news.specs.OpenAnswers.{left_open}

-- Returns what came to a desk since a day and was taken, by the lines of its diary. Without a day it is all that came
-- and was taken.
abbrev pub recent_of : Option Date → (lines : List (List ℕ)) → List Side → (came : List Apdu) → List Apdu
recent_of since lines sides came = news_of sides (came_since since lines came)

-- Returns the open answers in `came` that were taken and that `recent` lacks, and then `recent`. So each message is
-- printed once.
abbrev pub with_open : (notes : List (List ℕ)) → List Side → (recent came : List Apdu) → List Apdu
with_open notes sides recent came = news_of sides (left_open notes recent came) ++ recent

-- Returns the news of a desk by its notes and the lines of its diary: open answers of earlier days, what came since a
-- day and was taken, and then what dates have made due. Without a day it is all that came and was taken.
abbrev pub printed_since : Option Date → (notes lines : List (List ℕ)) → List Side → (came : List Apdu) → List Apdu
printed_since since notes lines sides came =
    with_open notes sides (recent_of since lines sides came) came ++ deeds_since since lines sides

-- Returns the news of a desk since a day, by its annex. Without a day no news are printed.
abbrev pub news_since : Option Date → AnnexRead → List Side → Option (List Apdu)
news_since since annex sides = option_map (λ day. printed_since (Some day) annex.notes annex.diary sides annex.came) since
