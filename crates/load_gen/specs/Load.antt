-- A large rehearsal file that is made from a number.
use Rattle.std.specs.Prelude.{ℕ, zero, suc, ◌+◌, ◌*◌, ◌/◌, ◌%◌, [], ◌++◌, length, decimal, codes}
use Rattle.txt_core.specs.Names.{Bytes}

-- ---- numbers that are drawn

-- the number that follows another one
abbrev pub next : ℕ → ℕ
next x = (x * 1103515245 + 12345) % 2147483648

-- the worker that gets a connection
abbrev pub worker : ℕ → ℕ
worker x = x % 4

-- what it asks for: one of three targets
abbrev pub choice : ℕ → ℕ
choice x = (x / 4) % 3

-- ---- one connection

-- the k-th request: for a procedure that counts, for one that tells its query, or for nothing that there is
abbrev pub target_of : ℕ → ℕ → Bytes
target_of zero k = codes "/hit"
target_of (suc zero) k = codes "/form?name=n" ++ decimal k
target_of (suc (suc more)) k = codes "/miss"

-- the input of a connection: a GET with the one field Host
abbrev pub get_of : Bytes → Bytes
get_of target = codes "GET " ++ target ++ codes " HTTP/1.1\r\nHost: l\r\n\r\n"

-- the worker ends what it had, gets the connection, and each of the four workers takes a step
abbrev pub round_of : ℕ → Bytes → Bytes
round_of number input =
    codes "run " ++ decimal number ++ codes "\n"
    ++ codes "connect " ++ decimal number ++ codes " " ++ decimal (length input) ++ codes "\n" ++ input ++ codes "\n"
    ++ codes "step 0\nstep 1\nstep 2\nstep 3\n"

abbrev pub round : ℕ → ℕ → Bytes
round x k = round_of (worker x) (get_of (target_of (choice x) k))

-- so many connections, the first of which is the k-th, behind the number that was drawn last
abbrev pub rounds : ℕ → ℕ → ℕ → Bytes
rounds zero k x = []
rounds (suc more) k x = round (next x) k ++ rounds more (k + 1) (next x)

-- ---- the file

-- two procedures and their URLs
abbrev pub block : Bytes
block = codes "proc hit {} {ns_return 200 text/plain [nsv_incr c n]}\nproc form {} {ns_return 200 text/plain [ns_queryget name]}\nns_register_proc GET /hit hit\nns_register_proc GET /form form"

abbrev pub front : Bytes
front = codes "workers 4\ndefine " ++ decimal (length block) ++ codes "\n" ++ block ++ codes "\n"

abbrev pub back : Bytes
back = codes "run 0\nrun 1\nrun 2\nrun 3\n"

-- The file of so many connections. The first number is drawn behind their count.
abbrev pub load_file : ℕ → Bytes
load_file n = front ++ rounds n 1 n ++ back

-- the most connections
abbrev pub most_requests : ℕ
most_requests = 100000

-- a file has fewer bytes than this
abbrev pub file_limit : ℕ
file_limit = 12000000

-- a piece of a file has at most so many bytes
abbrev pub piece_limit : ℕ
piece_limit = 48000
